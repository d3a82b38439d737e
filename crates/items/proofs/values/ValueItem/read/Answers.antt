-- The `read` of `items::Value` meets its contract.
use Rattle.std.proofs.Common.{refl}
use Rattle.protocol.specs.Kinds.{value_element}
use Rattle.items.proofs.values.ValueItem.read.Goals as goal

pub returns-in-Some : goal.returns-in-Some
unfolding value_element
returns-in-Some c = rw (← c.in_ok-value.ensures, c.in-Some.is) refl

pub returns-in-None : goal.returns-in-None
unfolding value_element
returns-in-None c = rw (← c.in_ok-value.ensures, c.in-None.is) refl
