-- What is proved of decoding: a page to read by itself, with the definitions that it names. Each statement is about any decoder, a function of the
-- rules and of the bytes that are there; the theorems, in proofs/, hold of `the_decoder`, to which the code is proved equal. An answer is said as
-- protocol's Answers sets it out: success with a record and the bytes consumed, needs_more, or a refusal with its number and place.
use Rattle.std.specs.Prelude.{ℕ, ◌+◌, ◌≤◌, true, false, List, [], ◌∷◌, ◌++◌, ◌⊎◌, ◌↔◌, ◌≡◌, length, take, drop}
use Rattle.std.proofs.Math.Option.{none, map}
use Rattle.protocol.specs.Decoded.{Decoded}
use Rattle.protocol.specs.Found.{Found}
use Rattle.protocol.specs.declared.Message.{Message}
use Rattle.protocol.specs.declared.Rules.{Rules}
use Rattle.protocol.specs.declared.kinds.Line.{Line}
use Rattle.protocol.specs.Answers.{Answer, success, needs_more, refusal, of_decoded}
use Rattle.protocol.specs.Bytes.{Bytes, is_one_of}
use Rattle.protocol.specs.Decode.{decode_of}
use Rattle.protocol.specs.Each.{Each, least_of_each}
use Rattle.protocol.specs.Elements.{element_of}
use Rattle.protocol.specs.Fields.{Slot, least}
use Rattle.protocol.specs.Kinds.{Kind, Mode, modes, IsIn, find, kind_in}
use Rattle.protocol.specs.Lines.{line_of, lines_of}
use Rattle.protocol.specs.Refusals.{mode_unknown}
use Rattle.protocol.specs.WellFormed.{Contents, WellFormed, body_start, length_of, frame, record_of}
use Rattle.laws.specs.Edges.{edges, Answered}
use Rattle.laws.specs.Faults.{BodyFault, HeaderFault, FrameEnds}
use Rattle.laws.specs.Places.{FieldsPlaced}
use Rattle.laws.specs.Waiting.{Waits}

abbrev pub Decoder : Type 0
Decoder = Rules → List ℕ → Decoded

abbrev pub the_decoder : Decoder
the_decoder = decode_of

-- an element call: rules, the bytes that are there, list number and element number
abbrev pub ElementCall : Type 0
ElementCall = Rules → List ℕ → ℕ → ℕ → Found

abbrev pub the_element_call : ElementCall
the_element_call = element_of

-- 1. Sound. What is accepted is a well-formed frame of the mode, and the answer is that frame's record and length.
pub record Accepted (rules : Rules) (s : List ℕ) (r : Message) (n : ℕ) : Type 0 where
  pub mode : Mode
  pub kind : Kind
  pub content : Contents kind
  pub well_formed : WellFormed rules mode kind content
  pub bytes : take n s ≡ frame mode.envelope kind content
  pub is : r ≡ record_of mode.envelope kind content
  pub size : n ≡ length (frame mode.envelope kind content)
  pub within : n ≤ length s

abbrev pub Sound : Decoder → Type 0
Sound decode =
    (rules : Rules) (s : List ℕ) (r : Message) (n : ℕ) → Bytes s → of_decoded (decode rules s) ≡ success r n → Accepted rules s r n

-- 2. Complete. Every well-formed frame, followed by any bytes, is accepted, with its record, and exactly its own bytes are consumed.
abbrev pub Complete : Decoder → Type 0
Complete decode =
    (rules : Rules) (m : Mode) (k : Kind) (c : Contents k) (t : List ℕ) → WellFormed rules m k c
    → of_decoded (decode rules (frame m.envelope k c ++ t)) ≡ success (record_of m.envelope k c) (length (frame m.envelope k c))

-- 3. Fields. The part of the buffer at each of a record's positions is that field's content; a list's count is its content's, and its start is
-- the byte after its count, also when it is empty (an error's is 5 and a start-up's 8, where the body starts).
pub record Placed (rules : Rules) (s : List ℕ) (r : Message) (n : ℕ) : Type 0 where
  pub accepted : Accepted rules s r n
  pub slots : Each Slot accepted.kind.body
  pub is : r ≡ accepted.kind.message slots
  pub placed : FieldsPlaced s accepted.kind.body (body_start accepted.mode.envelope) slots accepted.content

abbrev pub Fields : Decoder → Type 0
Fields decode =
    (rules : Rules) (s : List ℕ) (r : Message) (n : ℕ) → Bytes s → of_decoded (decode rules s) ≡ success r n → Placed rules s r n

-- 4. More bytes never change an answer: a record or a refusal is given again, same count and place, for every longer buffer.
abbrev pub MoreBytes : Decoder → Type 0
MoreBytes decode =
    (rules : Rules) (s t : List ℕ) → (of_decoded (decode rules s)).need_more ≡ false
    → of_decoded (decode rules (s ++ t)) ≡ of_decoded (decode rules s)

-- 5. Need-more exactly when the mode is known, every check on the header bytes that are there passes, and the frame's end has not arrived.
abbrev pub NeedMore : Decoder → Type 0
NeedMore decode = (rules : Rules) (s : List ℕ) → (of_decoded (decode rules s) ≡ needs_more) ↔ Waits rules.mode s

-- 6. Edges. The starred lines of docs/FORMAT.md 11, with the elements that they name.
abbrev pub Edges : Decoder → ElementCall → Type 0
Edges decode call = Answered decode call edges

-- 7. Refusals. Decoding refuses with a number and a place exactly where the fault of that number stands at that place. Of 5 to 8: the frame is there,
-- from its body's start to the place stand right contents, and at the place the fault that FORMAT.md's table names. Of 2 to 4: of the header. Of 1:
-- no mode has the number.
pub record Faulty (rules : Rules) (s : List ℕ) (number place : ℕ) : Type 0 where
  pub mode : Mode
  pub known : IsIn mode modes
  pub is : mode.mode ≡ rules.mode
  pub kind : Kind
  pub end : ℕ
  pub ends : FrameEnds mode.envelope mode.kinds kind s end
  pub whole : end ≤ length s
  pub at : ℕ
  pub fault : BodyFault rules kind.body (drop (body_start mode.envelope) (take end s)) number at
  pub placed : place ≡ body_start mode.envelope + at

abbrev pub UnknownMode : Rules → ℕ → ℕ → Type 0
UnknownMode rules number place = (number ≡ mode_unknown) × (place ≡ 0) × ((m : Mode) → IsIn m modes → m.mode ≡ rules.mode → ⊥)

pub record BadHeader (rules : Rules) (s : List ℕ) (number place : ℕ) : Type 0 where
  pub mode : Mode
  pub known : IsIn mode modes
  pub is : mode.mode ≡ rules.mode
  pub fault : HeaderFault mode.envelope mode.kinds s number place

abbrev pub FaultOf : Rules → List ℕ → ℕ → ℕ → Type 0
FaultOf rules s number place = UnknownMode rules number place ⊎ (BadHeader rules s number place ⊎ Faulty rules s number place)

abbrev pub Refusals : Decoder → Type 0
Refusals decode =
    (rules : Rules) (s : List ℕ) (number place : ℕ) → Bytes s
    → (of_decoded (decode rules s) ≡ refusal number place) ↔ FaultOf rules s number place

-- 8. The first fault decides: a buffer has one fault at most.
abbrev pub OneFault : Type 0
OneFault =
    (rules : Rules) (s : List ℕ) (number place number' place' : ℕ) → FaultOf rules s number place → FaultOf rules s number' place'
    → (number ≡ number') × (place ≡ place')

-- 9. Numbered. A refusal has a number from 1 to 8; and a refusal or need-more, told by the answer's own marks, consumes 0 and gives no record.
abbrev pub GivesNothing : {X : Type 0} → Answer X → Type 0
GivesNothing a = (a.need_more ≡ true) ⊎ (1 ≤ a.number) → (a.consumed ≡ 0) × (a.value ≡ none)

pub record IsNumbered {X : Type 0} (numbers : List ℕ) (a : Answer X) : Type 0 where
  pub number : (number place : ℕ) → a ≡ refusal number place → is_one_of number numbers ≡ true
  pub nothing : GivesNothing a

abbrev pub decode_numbers : List ℕ
decode_numbers = 1 ∷ 2 ∷ 3 ∷ 4 ∷ 5 ∷ 6 ∷ 7 ∷ 8 ∷ []

abbrev pub Numbered : Decoder → Type 0
Numbered decode = (rules : Rules) (s : List ℕ) → Bytes s → IsNumbered decode_numbers (of_decoded (decode rules s))

-- 10. These leave one decoder: whatever meets them gives the same answers.
abbrev pub OneDecoder : Decoder → Type 0
OneDecoder decode =
    (other : Decoder) → Complete other → NeedMore other → Refusals other
    → (rules : Rules) (s : List ℕ) → Bytes s → of_decoded (other rules s) ≡ of_decoded (decode rules s)

-- 11. Table. Each kind's smallest length is what its fields need at least, and no two kinds of a mode share what tells them. The lines, which the code
-- holds for a person to check, choose as the rows do: the line with a tag is that of the kind that the tag tells, and where no line has it, no kind is
-- told. That the table has FORMAT.md's lines is said in crate by_kind.
pub record Table (table : List Mode) : Type 0 where
  pub smallest : (m : Mode) → IsIn m table → (k : Kind) → IsIn k m.kinds → k.smallest ≡ length_of m.envelope (least_of_each least k.body)
  pub apart : (m : Mode) → IsIn m table → (k h : Kind) → IsIn k m.kinds → IsIn h m.kinds → k.tag ≡ h.tag → k ≡ h
  pub lines : (m : Mode) (tag : ℕ) → find (λ (l : Line). l.1) tag (lines_of m) ≡ map line_of (kind_in m tag)
