-- What a row read at once answers: its values and the bytes consumed, need-more, or a refusal's number and place.
use Rattle.std.specs.Prelude.{ℕ}
use Rattle.protocol.specs.declared.List.{List as ListSlot}

pub data Row : Type 0 where
  Is : ListSlot → ℕ → Row
  NeedMore : Row
  Refused : ℕ → ℕ → Row
