-- `element::element_in` meets its contract: 11, unless there is the list and the number is below its count.
use Rattle.std.proofs.Common.{refl, ◌∙◌}
use borrow.Author.Tests.{lt-ltb, le-ltb}
use Rattle.protocol.specs.Elements.{element_at}
use Rattle.element.proofs.element_in.Goals as goal

pub returns-in_default : goal.returns-in_default
unfolding element_at
returns-in_default c = rw (c.in_default.is, c.at.ensures) refl

pub returns-then-its-number : goal.returns-then-its-number
unfolding element_at
returns-then-its-number c = rw (c.in-Some.is, c.at-then-its-number.ensures, le-ltb _ _ c.if-its-number.true) refl

pub returns : goal.returns
unfolding element_at
returns c = c.sorted_at.ensures ∙ rw (c.in-Some.is, lt-ltb _ _ c.if-its-number.false) refl
