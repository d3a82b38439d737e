-- `listing::lines::put_refused` meets its contract: one write after the other.
use Rattle.std.proofs.Common.{refl, sym, arith}
use Rattle.listing.specs.Listing.{end_line}
use Rattle.listing.proofs.Writing.{◌then◌}
use Rattle.listing.proofs.lines.put_refused.Goals as goal

pub returns-clause-wrote : goal.returns-clause-wrote
unfolding end_line
returns-clause-wrote c =
    rw (sym c.number.ensures)
    (c.put_bytes-at.ensures.fits refl (omega arith) then c.put_number-at.ensures.wrote then c.put_byte-at.ensures.fits refl (omega arith) then c.put_number-at-2.ensures.wrote then c.put_byte.ensures.fits refl (omega arith))
