-- `listing::lines::put_words` meets its contract: one write after the other.
use Rattle.std.proofs.Common.{refl, arith}
use Rattle.listing.proofs.Writing.{◌then◌}
use Rattle.listing.proofs.lines.put_words.Goals as goal

pub returns-clause-wrote : goal.returns-clause-wrote
returns-clause-wrote c =
    c.put_bytes-at.ensures.fits refl (omega arith) then c.put_number-at.ensures.wrote then c.put_byte.ensures.fits refl (omega arith)
