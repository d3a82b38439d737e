-- A contract leaves one answer: what it says at two answers, and at two final buffers, makes them equal. This is said of each form that a contract
-- has, for whatever stands in it; docs/CONTRACTS.md, "One answer", tells which functions have which form.
-- The exception: of a returned part (`decode::part`, `element::value_or`, and the frame of `envelope::typed` and `untyped`, which are under `Frames`) a contract sees
-- the contents alone.
use Rattle.std.specs.Prelude.{ℕ, Bool, List, ◌≡◌, ◌<◌, ℤ, Result, MatchResult}
use Rattle.std.proofs.Math.Option.{Option}
use Rattle.std.specs.Borrow.{Bor}
use Rattle.protocol.specs.declared.List.{List as ListSlot}
use Rattle.protocol.specs.declared.Message.{Message}
use Rattle.protocol.specs.declared.Span.{Span}
use Rattle.protocol.specs.declared.mode.Mode.{Mode as Given}
use Rattle.protocol.specs.declared.mode.UnknownMode.{UnknownMode}
use Rattle.protocol.specs.declared.refusal.Refused.{Refused}
use Rattle.protocol.specs.declared.refusal.Unread.{Unread}
use Rattle.protocol.specs.Encode.{Encodes}
use Rattle.protocol.specs.Kinds.{Kind, Mode}
use Rattle.protocol.specs.Reading.{got}
use Rattle.protocol.specs.Told.{number_of, mode_number, decoded, encoded, found}
use Rattle.protocol.specs.WellFormed.{Contents}
use Rattle.codec.specs.CursorRead.{step_read, value_read, listed_read, passed_read}
use Rattle.envelope.specs.Header.{Header}
use Rattle.envelope.specs.Steps.{headed, unread, Framed}
use Rattle.host.specs.Asked.{Asked, Answers}
use Rattle.host_parts.specs.Built.{Renews}
use Rattle.host_parts.specs.Reads.{LaysRow}
use Rattle.items.specs.ItemRead.{field_read, error_read, pair_read, element_read}
use Rattle.listing.specs.Listing.{Lines, Fills, step_of, step_told, end_told, opening_told}
use Rattle.listing.specs.declared.End.{End}
use Rattle.listing.specs.declared.Filled.{Filled}
use Rattle.reader.specs.Row.{ReadsRow, row_told}
use Rattle.reader.specs.declared.FrameReader.{FrameReader}
use Rattle.row_builder.specs.Building.{built}
use Rattle.row_builder.specs.Built.{Built}
use Rattle.writers.specs.Writing.{Put}

-- an answer
abbrev pub Determines : {A : Type 0} → (A → Type 0) → Type 0
Determines {A} P = (r s : A) → P r → P s → r ≡ s

-- an answer and a final buffer
abbrev pub DeterminesBoth : {A B : Type 0} → (A → B → Type 0) → Type 0
DeterminesBoth {A} {B} P = (r s : A) (x y : B) → P r x → P s y → (r ≡ s) × (x ≡ y)

-- an answer and two final buffers
abbrev pub DeterminesAll : {A B C : Type 0} → (A → B → C → Type 0) → Type 0
DeterminesAll {A} {B} {C} P = (r s : A) (x y : B) (u v : C) → P r x u → P s y v → (r ≡ s) × (x ≡ y) × (u ≡ v)

-- ---- what a definition says

-- `r ≡ definition`: of the answer, of the contents of a returned part, or of what a lent buffer holds after the call
abbrev pub ByDefinition : Type 1
ByDefinition = (A : Type 0) (definition : A) → Determines (λ (r : A). r ≡ definition)

-- `(r ≡ definition) × (x ≡ left r)`: of the answer, and of what that answer leaves in a lent buffer
abbrev pub WithBuffer : Type 1
WithBuffer = (A B : Type 0) (definition : A) (left : A → B) → DeterminesBoth (λ (r : A) (x : B). (r ≡ definition) × (x ≡ left r))

-- ---- what a definition says of the case that the answer is

-- `set r ≡ definition`, where `set` sets each case of the answer out: no two cases come to the same
abbrev pub Tells : {A B : Type 0} → (A → B) → Type 0
Tells {A} {B} set = (definition : B) → Determines (λ (r : A). set r ≡ definition)

-- what decoding, an element call and an encoder answer, a refusal by its number and a mode by its own
pub record AnswersTell : Type 0 where
  pub decoding : Tells decoded
  pub element : Tells found
  pub encoding : Tells encoded
  pub refusal : Tells number_of
  pub mode : Tells mode_number

-- a step of the cursor or of the frame reader: one that began at a place and can only be cut (a byte, a number or a string), and the others
pub record StepsTell : Type 1 where
  pub step : (X : Type 0) (at : ℕ) → Tells (step_read {X = X} at)
  pub value : Tells value_read
  pub rest : (end : ℕ) → Tells (λ (r : Span). got r end)
  pub listed : Tells listed_read
  pub passed : Tells passed_read

-- where a header says that its frame ends, or why there is none
abbrev pub HeadersTell : Type 0
HeadersTell = Tells headed

-- a row's field, an error's and a start-up argument, and an item of any sort as an element
pub record ItemsTell : Type 0 where
  pub field : Tells field_read
  pub error_field : Tells error_read
  pub pair : Tells pair_read
  pub element : Tells element_read

-- a step of the listing, how its stream ends, and how an input opens
pub record ListingTells : Type 0 where
  pub step : Tells (λ (r : Result (Message × ℕ) End). step_of (step_told r))
  pub ending : Tells end_told
  pub opening : Tells opening_told

-- a row that is built
abbrev pub BuildersTell : Type 0
BuildersTell = Tells built

-- `(set r ≡ definition) × (x ≡ left (set r))`, where `set` tells the case: of the answer, and of what it leaves in a lent buffer
abbrev pub ToldWithBuffer : Type 1
ToldWithBuffer =
    (A B C : Type 0) (set : A → B) (definition : B) (left : B → C) → Tells set
    → DeterminesBoth (λ (r : A) (x : C). (set r ≡ definition) × (x ≡ left (set r)))

-- the mode with the number n, or that none has it
abbrev pub Modes : Type 0
Modes = (n : ℕ) → Determines (λ (r : Result Given UnknownMode). MatchResult r (λ m. mode_number m ≡ n) (λ e. (5 < n) × (e.0 ≡ n)))

-- ---- records of promises

-- the bytes of a frame, or why there is none
abbrev pub Frames : Type 0
Frames = (header : Header) (s : List ℕ) → Determines (λ (r : Result (List ℕ) Unread). MatchResult r (λ f. Framed header s f) (λ u. unread u ≡ header))

-- an encoder of the kind k in the mode m
abbrev pub Encoders : Type 0
Encoders =
    (m : Mode) (k : Kind) (given : Option (Contents k)) (out : List ℕ)
    → DeterminesBoth (λ (r : Result ℕ Refused) (out' : List ℕ). Encodes m k given out (encoded r) out')

-- an exported encoder
abbrev pub HostEncoders : Type 0
HostEncoders = (a : Option Asked) (out : List ℕ) → DeterminesBoth (λ (r : ℕ) (out' : List ℕ). Answers a out r out')

-- a writer of the n bytes xs
abbrev pub Writers : Type 0
Writers = (may : Bool) (out : List ℕ) (at : ℕ) (xs : List ℕ) (n : ℕ) → DeterminesBoth (λ (r : ℕ) (out' : List ℕ). Put may out at xs n out' r)

-- a page of a listing
abbrev pub Pages : Type 0
Pages = (lines : Lines) (room : List ℕ) → DeterminesBoth (λ (r : Filled) (room' : List ℕ). Fills lines room room' r)

-- a frame reader: which frame it holds, and where it stands
abbrev pub Readers : Type 0
Readers = (frame : Bor (List ℕ)) (at : ℕ) → Determines (λ (r : FrameReader). (r.frame ≡ frame) × (r.at ≡ at))

-- a whole row, with its two lists; and as the sixteen numbers at the boundary
abbrev pub WholeRows : Type 0
WholeRows =
    (buf starts : List ℕ) (lengths : List ℤ)
    → DeterminesAll
    (λ (r : Result (ListSlot × ℕ) Unread) (starts' : List ℕ) (lengths' : List ℤ). ReadsRow buf starts lengths (row_told r) starts' lengths')

abbrev pub HostRows : Type 0
HostRows =
    (buf starts : List ℕ) (lengths : List ℤ)
    → DeterminesAll (λ (out' starts' : List ℕ) (lengths' : List ℤ). LaysRow buf starts lengths starts' lengths' out')

-- a row that is built, at the boundary, with its two numbers and its room
abbrev pub HostBuilders : Type 0
HostBuilders =
    (built : Built) (p : ℕ) (xs row room : List ℕ)
    → DeterminesAll (λ (r : ℕ) (row' room' : List ℕ). Renews built p xs row room r row' room')
