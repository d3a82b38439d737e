-- `listing::lines::put_bad` meets its contract.
use Rattle.std.proofs.Common.{refl, arith}
use Rattle.listing.proofs.lines.put_bad.Goals as goal

pub returns-in-NoMode-clause-wrote : goal.returns-in-NoMode-clause-wrote
returns-in-NoMode-clause-wrote c = rw c.in-NoMode.is (c.put_bytes.ensures.fits refl (omega arith))

pub returns-in-Oversize-clause-wrote : goal.returns-in-Oversize-clause-wrote
returns-in-Oversize-clause-wrote c = rw c.in-Oversize.is (c.put_bytes-in-Oversize.ensures.fits refl (omega arith))
