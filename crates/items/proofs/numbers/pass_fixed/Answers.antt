-- `items::numbers::pass_fixed` meets its contract.
use Rattle.std.proofs.Common.{refl}
use borrow.Author.Tests.{lt-ltb, le-ltb}
use Rattle.items.specs.ItemRead.{pass_fixed}
use Rattle.items.proofs.numbers.pass_fixed.Goals as goal

pub returns-then-whole-count : goal.returns-then-whole-count
unfolding pass_fixed
returns-then-whole-count c = rw (c.at.ensures, ← c.saturating_sub.ensures, lt-ltb _ _ c.if-whole-count.true) refl

pub returns : goal.returns
unfolding pass_fixed
returns c = rw (← c.saturating_sub.ensures, le-ltb _ _ c.if-whole-count.false) refl
