-- What an encoder answers: the bytes written, or a refusal's number and place.
use Rattle.std.specs.Prelude.{ℕ}

pub data Encoded : Type 0 where
  Done : ℕ → Encoded
  Refused : ℕ → ℕ → Encoded
