-- What is proved of a row that is built column by column: a page to read by itself. A call is a function of the stored row and of the room's bytes; it
-- gives its answer and the room after. The theorems hold of `the_builder`, which is what the calls' contracts say.
use Rattle.std.specs.Prelude.{ℕ, ◌+◌, ◌-◌, ◌≤◌, ◌<◌, List, [], ◌∷◌, ◌++◌, ◌⊎◌, ◌↔◌, ◌≡◌, length, take}
use Rattle.std.proofs.Math.Option.{Option, some, none}
use Rattle.protocol.specs.Encoded.{Encoded}
use Rattle.protocol.specs.Answers.{success, refusal, Unsuccessful, of_encoded}
use Rattle.protocol.specs.Bytes.{Bytes}
use Rattle.protocol.specs.Encode.{items}
use Rattle.protocol.specs.Fields.{most, signed_count, value_bytes}
use Rattle.protocol.specs.Kinds.{backend, data_row, large_frame, typed}
use Rattle.protocol.specs.Refusals.{length_above_limit, output_too_short, not_representable, no_such_element}
use Rattle.protocol.specs.Rules.{rules_of}
use Rattle.protocol.specs.WellFormed.{Contents, WellFormed, frame}
use Rattle.row_builder.specs.Building.{begin_of, append_of, drop_of, finish_of, left_by, built_by, of_built}
use Rattle.row_builder.specs.Built as B
use Rattle.row_builder.specs.Built.{Built}
use Rattle.row_builder.specs.declared.Row.{Row}
use Rattle.laws.specs.Arguments.{All}
use Rattle.laws.specs.EncodeStatements.{Encoder, Decodes}
use Rattle.laws.specs.Statements.{Decoder, ElementCall, IsNumbered}

pub record Outcome : Type 0 where
  pub answer : Built
  pub room : List ℕ

pub record Builder : Type 0 where
  pub begin : List ℕ → Outcome
  pub append : Row → Option (List ℕ) → List ℕ → Outcome  -- a value, or NULL
  pub drop_last : Row → List ℕ → Outcome
  pub finish : Row → List ℕ → Encoded  -- it is lent the room to read

-- answered, and left with xs written at p
abbrev outcome : Built → ℕ → List ℕ → List ℕ → Outcome
outcome answer p xs room = record { answer = answer; room = left_by answer p xs room }

abbrev pub the_builder : Builder
the_builder = record {
  begin = λ room. outcome (begin_of room) 0 [] room;
  append = λ row value room. outcome (append_of row value room) row.size (value_bytes value) room;
  drop_last = λ row room. outcome (drop_of row room) 0 [] room;
  finish = finish_of;
}

-- ---- columns, and a room that begins with a row of them

abbrev pub Column : Type 0
Column = Option (List ℕ)

unfoldable pub row_of : List Column → Contents data_row
unfolding data_row
row_of cs = (items cs, tt)

abbrev pub row_frame : List Column → List ℕ
row_frame cs = frame typed data_row (row_of cs)

-- the room begins with the well-formed frame of these columns, and the row stores its size and their count
pub record Stands (row : Row) (room : List ℕ) (cs : List Column) : Type 0 where
  pub well_formed : WellFormed (rules_of 1) backend data_row (row_of cs)
  pub bytes : take row.size room ≡ row_frame cs
  pub size : row.size ≡ length (row_frame cs)
  pub columns : row.columns ≡ length cs

-- of some columns
abbrev pub Standing : Row → List ℕ → Type 0
Standing row room = (cs : List Column) × Stands row room cs

-- 1. Encoding. What a call answers, and what it leaves in the room, is what an encoder of a DataRow does with the columns that there are to be: its
-- refusals in their order, its frame at the room's start, and every later byte as it was.
abbrev pub encoded : Encoder → List Column → List ℕ → Outcome
encoded encode cs room =
    let e = encode backend data_row (some (row_of cs)) room in
    record { answer = built_by (length cs) e.answer; room = e.output }

pub record BuildsAsEncoded (builder : Builder) (encode : Encoder) : Type 0 where
  pub begins : (room : List ℕ) → builder.begin room ≡ encoded encode [] room
  pub appends : (row : Row) (room : List ℕ) (cs : List Column) (c : Column) → Stands row room cs
      → builder.append row c room ≡ encoded encode (cs ++ c ∷ []) room
  pub drops : (row : Row) (room : List ℕ) (cs : List Column) (c : Column) → Stands row room (cs ++ c ∷ [])
      → builder.drop_last row room ≡ encoded encode cs room

-- 2. Exactly. Each answer, of any stored numbers and any bytes; every refusal has place 0.
pub record BuildsExactly (builder : Builder) (row : Row) (room : List ℕ) (c : Column) : Type 0 where
  pub begin_nine : (of_built (builder.begin room).answer ≡ refusal output_too_short 0) ↔ (length room < 7)
  pub begun : (next : Row)
      → (of_built (builder.begin room).answer ≡ success next 0) ↔ ((7 ≤ length room) × (next ≡ record { columns = 0; size = 7 }))
  pub append_ten :
      (of_built (builder.append row c room).answer ≡ refusal not_representable 0) ↔ ((Standing row room → ⊥) ⊎ (most signed_count ≤ row.columns))
  pub append_four :
      (of_built (builder.append row c room).answer ≡ refusal length_above_limit 0)
      ↔ (Standing row room × (row.columns < most signed_count) × (large_frame < row.size + length (value_bytes c)))
  pub append_nine :
      (of_built (builder.append row c room).answer ≡ refusal output_too_short 0)
      ↔ (Standing row room × (row.columns < most signed_count) × (row.size + length (value_bytes c) ≤ large_frame)
      × (length room < row.size + length (value_bytes c)))
  pub appended : (next : Row)
      → (of_built (builder.append row c room).answer ≡ success next 0)
      ↔ (Standing row room × (row.columns < most signed_count) × (row.size + length (value_bytes c) ≤ large_frame)
      × (row.size + length (value_bytes c) ≤ length room)
      × (next ≡ record { columns = row.columns + 1; size = row.size + length (value_bytes c) }))
  pub drop_ten : (of_built (builder.drop_last row room).answer ≡ refusal not_representable 0) ↔ (Standing row room → ⊥)
  pub drop_eleven : (of_built (builder.drop_last row room).answer ≡ refusal no_such_element 0) ↔ (Standing row room × (row.columns ≡ 0))
  pub dropped : (next : Row)
      → (of_built (builder.drop_last row room).answer ≡ success next 0)
      ↔ ((cs : List Column) × (d : Column) × Stands row room (cs ++ d ∷ []) × (next ≡ record { columns = length cs; size = length (row_frame cs) }))
  pub finish_ten : (of_encoded (builder.finish row room) ≡ refusal not_representable 0) ↔ (Standing row room → ⊥)
  pub finished : (n : ℕ) → (of_encoded (builder.finish row room) ≡ success tt n) ↔ (Standing row room × (n ≡ row.size))

abbrev pub BuilderExactly : Builder → Type 0
BuilderExactly builder = (row : Row) (room : List ℕ) (c : Column) → Bytes room → BuildsExactly builder row room c

-- 3. Unchanged. Refused, the room is what it was.
pub record KeepsTheRoom (builder : Builder) : Type 0 where
  pub begin : (room : List ℕ) → Unsuccessful (of_built (builder.begin room).answer) → (builder.begin room).room ≡ room
  pub append : (row : Row) (c : Column) (room : List ℕ) → Unsuccessful (of_built (builder.append row c room).answer)
      → (builder.append row c room).room ≡ room
  pub drop_last : (row : Row) (room : List ℕ) → Unsuccessful (of_built (builder.drop_last row room).answer) → (builder.drop_last row room).room ≡ room

-- 4. Histories. What a caller holds: the row and the room, and the columns that it means them to be.
pub record Held : Type 0 where
  pub row : Row
  pub room : List ℕ
  pub columns : List Column

pub data Call : Type 0 where
  append : Column → Call
  drop_last : Call
  finish : Call

-- what a successful call makes of the columns: one more at the end, the last one gone, or the same
abbrev pub expected : Call → List Column → List Column
expected (append c) cs = cs ++ c ∷ []
expected drop_last cs = take (length cs - 1) cs
expected finish cs = cs

-- success gives the new row, and the columns that are expected; a refusal leaves row and columns. The room is what the call left
abbrev pub held_by : Held → List Column → Built → List ℕ → Held
held_by h cs (B.Is row) room = record { row = row; room = room; columns = cs }
held_by h cs (B.Refused number place) room = record { row = h.row; room = room; columns = h.columns }

abbrev holds : Held → Call → Outcome → Held
holds h call o = held_by h (expected call h.columns) o.answer o.room

abbrev pub called : Builder → Held → Call → Held
called builder h (append c) = holds h (append c) (builder.append h.row c h.room)
called builder h drop_last = holds h drop_last (builder.drop_last h.row h.room)
called builder h finish = h

unfoldable pub after : Builder → Held → List Call → Held
after builder h [] = h
after builder h (c ∷ cs) = after builder (called builder h c) cs

-- what is held once begun, whose answer was this row
abbrev pub begun : Builder → List ℕ → Row → Held
begun builder room row = record { row = row; room = (builder.begin room).room; columns = [] }

-- that a call is refused
abbrev pub Refuses : Builder → Held → Call → Type 0
Refuses builder h (append c) = Unsuccessful (of_built (builder.append h.row c h.room).answer)
Refuses builder h drop_last = Unsuccessful (of_built (builder.drop_last h.row h.room).answer)
Refuses builder h finish = Unsuccessful (of_encoded (builder.finish h.row h.room))

-- A refused call leaves row, room and columns.
abbrev pub LeavesAll : Builder → Type 0
LeavesAll builder = (h : Held) (c : Call) → Refuses builder h c → called builder h c ≡ h

-- a value is bytes
abbrev pub CallInRange : Call → Type 0
CallInRange (append none) = Unit {0}
CallInRange (append (some value)) = Bytes value
CallInRange drop_last = Unit {0}
CallInRange finish = Unit {0}

-- After begin and any calls, refused ones among them: the room begins with the well-formed frame of the expected columns, the row stores its size and
-- their count, finish gives the size, and the frame, followed by any bytes, decodes to those columns, which the element calls give one by one.
pub record IsBuilt (builder : Builder) (decode : Decoder) (call : ElementCall) (h : Held) : Type 0 where
  pub stands : Stands h.row h.room h.columns
  pub finishes : of_encoded (builder.finish h.row h.room) ≡ success tt h.row.size
  pub decodes : (t : List ℕ) → Decodes decode call (rules_of 1) backend data_row (row_of h.columns) (take h.row.size h.room ++ t) h.row.size

abbrev pub Histories : Builder → Decoder → ElementCall → Type 0
Histories builder decode call =
    (room : List ℕ) (row : Row) (calls : List Call) → All CallInRange calls → of_built (builder.begin room).answer ≡ success row 0
    → IsBuilt builder decode call (after builder (begun builder room row) calls)

-- 5. Numbered. A refusal has one of the numbers 4, 9, 10 and 11, and gives no row.
abbrev pub builder_numbers : List ℕ
builder_numbers = 4 ∷ 9 ∷ 10 ∷ 11 ∷ []

pub record BuilderNumbered (builder : Builder) (row : Row) (room : List ℕ) (c : Column) : Type 0 where
  pub begin : IsNumbered builder_numbers (of_built (builder.begin room).answer)
  pub append : IsNumbered builder_numbers (of_built (builder.append row c room).answer)
  pub drop_last : IsNumbered builder_numbers (of_built (builder.drop_last row room).answer)
  pub finish : IsNumbered builder_numbers (of_encoded (builder.finish row room))

-- 6. These leave one builder: whatever meets 1, 2 and 3 gives the same answers and leaves the same room.
abbrev pub OneBuilder : Builder → Encoder → Type 0
OneBuilder builder encode =
    (other : Builder) → BuildsAsEncoded other encode → BuilderExactly other → KeepsTheRoom other
    → (row : Row) (room : List ℕ) (c : Column) → Bytes room
    → (other.begin room ≡ builder.begin room)
    × (other.append row c room ≡ builder.append row c room)
    × (other.drop_last row room ≡ builder.drop_last row room)
    × (of_encoded (other.finish row room) ≡ of_encoded (builder.finish row room))
