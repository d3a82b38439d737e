-- What stands at a place of a stream: a frame's message and its bytes, or how the stream ends.
use Rattle.std.specs.Prelude.{ℕ}
use Rattle.protocol.specs.declared.Message.{Message}

pub data Step : Type 0 where
  Frame : Message → ℕ → Step
  Whole : Step
  NeedMore : Step
  Refused : ℕ → Step
