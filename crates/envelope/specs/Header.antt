-- What a header tells: where the frame ends, need-more, or a refusal's number and place.
use Rattle.std.specs.Prelude.{ℕ}

pub data Header : Type 0 where
  Frame : ℕ → Header
  NeedMore : Header
  Refused : ℕ → ℕ → Header
