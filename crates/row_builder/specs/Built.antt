-- What a call that builds a row answers: the row, or a refusal's number and place.
use Rattle.std.specs.Prelude.{ℕ}
use Rattle.row_builder.specs.declared.Row.{Row}

pub data Built : Type 0 where
  Is : Row → Built
  Refused : ℕ → ℕ → Built
