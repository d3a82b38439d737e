-- `listing::put_line` meets its contract: by what is left.
use Rattle.std.proofs.Common.{refl, arith}
use Rattle.listing.specs.Listing.{line_of}
use Rattle.listing.proofs.put_line.Goals as goal

pub returns-in-All : goal.returns-in-All
unfolding line_of
returns-in-All c = rw c.in-All.is (record { wrote = c.put_bytes.ensures.fits refl (omega arith); left = refl; short = omega (arith, c.put_bytes.ensures.near) })

pub returns-in-From : goal.returns-in-From
unfolding line_of
returns-in-From c = rw c.in-From.is c.put_from.ensures

pub returns-in-Nothing : goal.returns-in-Nothing
unfolding line_of
returns-in-Nothing c = rw (c.in-Nothing.is, c.last.ensures) (record { wrote = record { bytes = refl; size = refl; place = omega arith }; left = refl; short = omega arith })
