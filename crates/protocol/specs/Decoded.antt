-- What decoding answers: the record and the bytes consumed, need-more, or a refusal's number and place.
use Rattle.std.specs.Prelude.{ℕ}
use Rattle.protocol.specs.declared.Message.{Message}

pub data Decoded : Type 0 where
  Record : Message → ℕ → Decoded
  NeedMore : Decoded
  Refused : ℕ → ℕ → Decoded
