-- What the start of an input says: its mode, that it names none, or that too many bytes follow it.
use Rattle.std.specs.Prelude.{ℕ}

pub data Opening : Type 0 where
  Mode : ℕ → Opening
  NoMode : Opening
  Oversize : Opening
