-- Frame after frame (docs/FORMAT.md 10): what stands at a place of a buffer, and all the frames from there on with the end that follows them.
use Rattle.std.specs.Prelude.{ℕ, zero, suc, ◌+◌, cond, List, [], ◌∷◌, leb, length, drop}
use Rattle.protocol.specs.Decoded as D
use Rattle.protocol.specs.Decoded.{Decoded}
use Rattle.protocol.specs.declared.Message.{Message}
use Rattle.protocol.specs.declared.Rules.{Rules}
use Rattle.protocol.specs.Decode.{decode_of}

-- how a stream ends: no byte is left, a frame's end has not arrived, or a frame is refused with this number
pub data End : Type 0 where
  whole : End
  need_more : End
  refused : ℕ → End

-- a frame's message and its bytes, or the end
pub data Step : Type 0 where
  frame : Message → ℕ → Step
  stop : End → Step

unfoldable pub step_by : Decoded → Step
step_by (D.Record m n) = frame m n
step_by D.NeedMore = stop need_more
step_by (D.Refused number place) = stop (refused number)

-- what stands at p: the end is whole exactly when no byte is left there
unfoldable pub step_at : Rules → List ℕ → ℕ → Step
step_at rules s p = cond (leb (length s) p) (stop whole) (step_by (decode_of rules (drop p s)))

-- a frame: where it begins, its message and its bytes
pub record FrameAt : Type 0 where
  pub at : ℕ
  pub message : Message
  pub bytes : ℕ

-- the frames, the end, and where the unread frame begins
pub record Stream : Type 0 where
  pub frames : List FrameAt
  pub end : End
  pub at : ℕ

-- after a frame come the frames behind it
abbrev pub stream_by : ℕ → Step → (ℕ → Stream) → Stream
stream_by p (stop e) rest = record { frames = []; end = e; at = p }
stream_by p (frame m n) rest =
    let t = rest (p + n) in
    record { frames = record { at = p; message = m; bytes = n } ∷ t.frames; end = t.end; at = t.at }

-- from p on. Each turn passes a byte at least, so as many turns as there are bytes are enough, and after the last no byte is left
unfoldable pub stream_from : Rules → ℕ → List ℕ → ℕ → Stream
stream_from rules zero s p = record { frames = []; end = whole; at = p }
stream_from rules (suc turns) s p = stream_by p (step_at rules s p) (stream_from rules turns s)

unfoldable pub stream_of : Rules → List ℕ → Stream
stream_of rules s = stream_from rules (length s) s 0
