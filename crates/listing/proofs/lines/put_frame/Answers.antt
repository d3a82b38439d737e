-- `listing::lines::put_frame` meets its contract: one write after the other.
use Rattle.std.proofs.Common.{refl, arith}
use Rattle.listing.specs.Listing.{frame_line}
use Rattle.listing.proofs.Writing.{◌then◌}
use Rattle.listing.proofs.lines.put_frame.Goals as goal

pub returns-clause-wrote : goal.returns-clause-wrote
unfolding frame_line
returns-clause-wrote c =
    c.put_number-at.ensures.wrote then c.put_byte-at.ensures.fits refl (omega arith) then c.put_name-at.ensures.wrote then c.put_byte-at-2.ensures.fits refl (omega arith) then c.put_number-at-2.ensures.wrote then c.put_byte.ensures.fits refl (omega arith)
