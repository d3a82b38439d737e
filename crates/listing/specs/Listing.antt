-- The listing of a whole input (docs/FORMAT.md 10): a digit for the mode, then the stream of frames.
use Rattle.std.specs.Prelude.{ℕ, zero, suc, ◌+◌, ◌-◌, ◌≤◌, cond, List, [], ◌∷◌, ◌++◌, ◌≡◌, ltb, length, drop, Result, Ok, Err}
use Rattle.std.proofs.Math.Option.{Option, some, none}
use Rattle.protocol.specs.declared.Message.{Message}
use Rattle.protocol.specs.declared.mode.Mode.{Mode as Given}
use Rattle.protocol.specs.Answers.{Answer, success, needs_more, refusal}
use Rattle.protocol.specs.Kinds.{Mode, modes, find}
use Rattle.protocol.specs.Names.{name_of, letters_of}
use Rattle.protocol.specs.Rules.{rules_of}
use Rattle.protocol.specs.Told.{mode_number, number_of}
use Rattle.protocol.specs.Stream as Stream
use Rattle.protocol.specs.Stream.{End, whole, need_more, refused, frame, stop, FrameAt, Stream, step_at, stream_from}
use Rattle.writers.specs.Writing.{write}
use Rattle.listing.specs.declared.Left.TheVariants as L
use Rattle.listing.specs.declared.Left.{Left}
use Rattle.listing.specs.declared.Filled.{Filled}
use Rattle.listing.specs.declared.BadInput.TheVariants as B
use Rattle.listing.specs.declared.BadInput.{BadInput}
use Rattle.listing.specs.declared.End.TheVariants as E
use Rattle.listing.specs.declared.End.{End as Ending}
use Rattle.listing.specs.Opening as O
use Rattle.listing.specs.Opening.{Opening}
use Rattle.listing.specs.Step as S
use Rattle.listing.specs.Step.{Step}
use Rattle.listing.specs.Text.{decimal, Wrote}

-- ---- what the code answers, in these words

abbrev pub opening_told : Result Given BadInput → Opening
opening_told (Ok mode) = O.Mode (mode_number mode)
opening_told (Err B.NoMode) = O.NoMode
opening_told (Err B.Oversize) = O.Oversize

abbrev pub end_told : Ending → End
end_told E.Whole = whole
end_told E.NeedMore = need_more
end_told (E.Refused r) = refused (number_of r)

abbrev pub step_told : Result (Message × ℕ) Ending → Step
step_told (Ok (m, n)) = S.Frame m n
step_told (Err E.Whole) = S.Whole
step_told (Err E.NeedMore) = S.NeedMore
step_told (Err (E.Refused r)) = S.Refused (number_of r)

-- ---- a step

-- what each case of a step says
abbrev pub step_of : Step → Stream.Step
step_of (S.Frame m n) = frame m n
step_of S.Whole = stop whole
step_of S.NeedMore = stop need_more
step_of (S.Refused number) = stop (refused number)

-- as an answer: a frame's message and its bytes, or none where no byte is left at p; a refusal's place is p, where the unread frame begins
unfoldable pub of_step : ℕ → Step → Answer (Option Message)
of_step p (S.Frame m n) = success (some m) n
of_step p S.Whole = success none 0
of_step p S.NeedMore = needs_more
of_step p (S.Refused number) = refusal number p

-- ---- the lines

abbrev pub space : List ℕ
space = 32 ∷ []

abbrev pub newline : List ℕ
newline = 10 ∷ []

abbrev pub header : List ℕ
header = letters_of "at kind bytes" ++ newline

-- a frame at p: its place, its kind's name and its bytes
unfoldable pub frame_line : ℕ → Message → ℕ → List ℕ
frame_line p m n = decimal p ++ space ++ letters_of (name_of m) ++ space ++ decimal n ++ newline

-- the end, and where the unread frame begins
unfoldable pub end_line : End → ℕ → List ℕ
end_line whole p = letters_of "end whole " ++ decimal p ++ newline
end_line need_more p = letters_of "end need-more " ++ decimal p ++ newline
end_line (refused number) p = letters_of "end refused " ++ decimal number ++ space ++ decimal p ++ newline

abbrev pub end_mode : List ℕ
end_mode = letters_of "end mode 0" ++ newline

abbrev pub end_oversize : List ℕ
end_oversize = letters_of "end oversize 0" ++ newline

-- ---- the whole

abbrev pub frame_lines : List FrameAt → List ℕ
frame_lines [] = []
frame_lines (f ∷ fs) = frame_line f.at f.message f.bytes ++ frame_lines fs

abbrev pub stream_text : Stream → List ℕ
stream_text t = frame_lines t.frames ++ end_line t.end t.at

abbrev pub most : ℕ
most = 65536

abbrev pub digit_of : Mode → ℕ
digit_of m = 48 + m.mode

unfoldable pub sized : ℕ → ℕ → Opening
sized mode size = cond (ltb most size) O.Oversize (O.Mode mode)

-- the mode is tested first, and then the stream's size
unfoldable pub opening_by : Option Mode → ℕ → Opening
opening_by none size = O.NoMode
opening_by (some m) size = sized m.mode size

unfoldable pub opening_of : List ℕ → Opening
opening_of [] = O.NoMode
opening_of (digit ∷ s) = opening_by (find digit_of digit modes) (length s)

abbrev pub text_from : Opening → List ℕ → ℕ → List ℕ
text_from (O.Mode mode) s p = stream_text (stream_from (rules_of mode) (length s - p) s p)
text_from O.NoMode s p = end_mode
text_from O.Oversize s p = end_oversize

-- what is printed for an input
abbrev pub listing_of : List ℕ → List ℕ
listing_of input = header ++ text_from (opening_of input) (drop 1 input) 0

-- ---- line after line

-- what is left of a listing
abbrev pub left_text : List ℕ → Left → List ℕ
left_text input L.All = listing_of input
left_text input (L.From p) = text_from (opening_of input) (drop 1 input) p
left_text input L.Nothing = []

-- some lines, and what is left after them
pub record Lines : Type 0 where
  pub text : List ℕ
  pub left : Left

unfoldable pub step_line : ℕ → Stream.Step → Lines
step_line p (frame m n) = record { text = frame_line p m n; left = L.From (p + n) }
step_line p (stop e) = record { text = end_line e p; left = L.Nothing }

unfoldable pub line_from : Opening → List ℕ → ℕ → Lines
line_from (O.Mode mode) s p = step_line p (step_at (rules_of mode) s p)
line_from O.NoMode s p = record { text = end_mode; left = L.Nothing }
line_from O.Oversize s p = record { text = end_oversize; left = L.Nothing }

unfoldable pub line_of : List ℕ → Left → Lines
line_of input L.All = record { text = header; left = L.From 0 }
line_of input (L.From p) = line_from (opening_of input) (drop 1 input) p
line_of input L.Nothing = record { text = []; left = L.Nothing }

-- the next lines: as many as the number says, or all that are left
unfoldable pub lines_of : ℕ → List ℕ → Left → Lines
lines_of zero input left = record { text = []; left = left }
lines_of (suc count) input left =
    let l = line_of input left in
    let t = lines_of count input l.left in
    record { text = l.text ++ t.text; left = t.left }

-- the line of an input that is no listing's
abbrev pub bad_line : BadInput → List ℕ
bad_line B.NoMode = end_mode
bad_line B.Oversize = end_oversize

-- a line stands at p, in no more than 64 bytes
pub record Lined (line : Lines) (d : List ℕ) (p : ℕ) (out : List ℕ) (r : Filled) : Type 0 where
  pub wrote : Wrote d p line.text out r.count
  pub left : r.left ≡ line.left
  pub short : r.count ≤ p + 64

-- these lines are at the start of the room, and all else in it is as it was
pub record Fills (lines : Lines) (room out : List ℕ) (r : Filled) : Type 0 where
  pub bytes : out ≡ write room 0 lines.text
  pub count : r.count ≡ length lines.text
  pub left : r.left ≡ lines.left
