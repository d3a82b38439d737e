-- A row that is built at the start of a lent room, column by column (docs/FORMAT.md 12): what each call answers, and what it leaves in the room.
use Rattle.std.specs.Prelude.{ℕ, ◌+◌, ◌-◌, Bool, true, false, cond, ◌&&◌, List, ◌++◌, ltb, eqb, length, take, Result, Ok, Err}
use Rattle.std.proofs.Math.Option.{Option, some, none}
use Rattle.protocol.specs.Decoded as D
use Rattle.protocol.specs.Decoded.{Decoded}
use Rattle.protocol.specs.Encoded as N
use Rattle.protocol.specs.Encoded.{Encoded}
use Rattle.protocol.specs.declared.List.{List as ListSlot}
use Rattle.protocol.specs.declared.refusal.Refused.{Refused}
use Rattle.protocol.specs.Answers.{Answer, success, refusal}
use Rattle.protocol.specs.Bytes.{be}
use Rattle.protocol.specs.Decode.{decode_of}
use Rattle.protocol.specs.Fields.{most, signed_count, value_bytes}
use Rattle.protocol.specs.Kinds.{typed, data_row, nullable}
use Rattle.protocol.specs.Reading.{Read, got, bad, pass_items}
use Rattle.protocol.specs.Refusals.{not_representable, no_such_element}
use Rattle.protocol.specs.Rules.{rules_of}
use Rattle.protocol.specs.Told.{number_of}
use Rattle.protocol.specs.WellFormed.{header}
use Rattle.reader.specs.Row.{row_in}
use Rattle.writers.specs.Writing.{write, verdict_of}
use Rattle.row_builder.specs.Built as B
use Rattle.row_builder.specs.Built.{Built}
use Rattle.row_builder.specs.declared.Row.{Row}

-- ---- whether the room begins with a well-formed row of the stored count and size, which is decode's word

abbrev pub has_count : ℕ → Option ListSlot → Bool
has_count n none = false
has_count n (some l) = eqb l.count n

unfoldable pub is_of : Row → Decoded → Bool
is_of row (D.Record m n) = has_count row.columns (row_in m) && eqb n row.size
is_of row D.NeedMore = false
is_of row (D.Refused number place) = false

unfoldable pub stands : Row → List ℕ → Bool
stands row room = is_of row (decode_of (rules_of 1) room)

-- ---- the answers

-- what the code's answer says
abbrev pub built : Result Row Refused → Built
built (Ok row) = B.Is row
built (Err r) = B.Refused (number_of r.refusal) r.place

-- a row of that many columns, where there may be a frame of its size
unfoldable pub built_by : ℕ → Encoded → Built
built_by columns (N.Done size) = B.Is (record { columns = columns; size = size })
built_by columns (N.Refused number place) = B.Refused number place

-- an empty row
unfoldable pub begin_of : List ℕ → Built
begin_of room = built_by 0 (verdict_of true data_row.limit data_row.smallest 1 (length room))

-- one column more, of n bytes with its length: 10, then 4, then 9
unfoldable pub grow_of : Row → ℕ → List ℕ → Built
grow_of row n room =
    built_by (row.columns + 1)
    (verdict_of (stands row room && ltb row.columns (most signed_count)) data_row.limit (row.size - 1 + n) 1 (length room))

-- a value, or NULL
abbrev pub append_of : Row → Option (List ℕ) → List ℕ → Built
append_of row value room = grow_of row (length (value_bytes value)) room

-- where the first n columns of a row's frame end
abbrev pub place_of : {X : Type 0} → Read X → ℕ
place_of (got _ next) = next
place_of (bad number place) = place

unfoldable pub columns_end : ℕ → List ℕ → ℕ
columns_end n frame = place_of (pass_items (rules_of 1) nullable n frame 7)

-- one column fewer: 10, then 11
unfoldable pub drop_of : Row → List ℕ → Built
drop_of row room =
    cond (stands row room)
    (cond (eqb row.columns 0) (B.Refused no_such_element 0)
    (B.Is (record { columns = row.columns - 1; size = columns_end (row.columns - 1) (take row.size room) })))
    (B.Refused not_representable 0)

-- the size, to hand the frame out
unfoldable pub finish_of : Row → List ℕ → Encoded
finish_of row room = cond (stands row room) (N.Done row.size) (N.Refused not_representable 0)

-- the row; it consumes nothing
unfoldable pub of_built : Built → Answer Row
of_built (B.Is row) = success row 0
of_built (B.Refused number place) = refusal number place

-- ---- the room

-- what stands before the columns: type byte, length word and count
unfoldable pub head_of : Row → List ℕ
head_of row = header typed data_row.tag (row.size - 5) ++ be 2 row.columns

-- success writes xs at p and the new head, and keeps every other byte; a refusal changes nothing
unfoldable pub left_by : Built → ℕ → List ℕ → List ℕ → List ℕ
left_by (B.Is row) p xs room = write (write room p xs) 0 (head_of row)
left_by (B.Refused number place) p xs room = room
