-- `codec::negative` meets its contract: by the two readings of a count.
use mathlib.Core.Path.{refl, sym}
use native.Mathlib.Omega.{arith}
use borrow.Author.Tests.{le-ltb}
use Rattle.protocol.specs.Fields.{most, unsigned_count}
use Rattle.codec.proofs.negative.Goals as goal

pub returns-in-Signed : goal.returns-in-Signed
returns-in-Signed c = (rw c.in-Signed.is refl, omega (arith, c.ranges))

pub returns-in-Unsigned : goal.returns-in-Unsigned
returns-in-Unsigned c = (rw c.in-Unsigned.is (sym (le-ltb (most unsigned_count) c.args.count (omega (arith, c.ranges)))), omega (arith, c.ranges))
