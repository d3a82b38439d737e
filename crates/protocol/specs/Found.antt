-- What an element call answers: the element, need-more, or a refusal's number and place.
use Rattle.std.specs.Prelude.{ℕ}
use Rattle.protocol.specs.declared.Element.{Element}

pub data Found : Type 0 where
  Is : Element → Found
  NeedMore : Found
  Refused : ℕ → ℕ → Found
