-- The steps by which the code comes to what `stands` says, in one walk: those of decoding a DataRow, and where its last column starts.
use Rattle.std.specs.Prelude.{ℕ, ◌-◌, Bool, false, cond, ◌&&◌, List, eqb, length, take, Option, Some, None}
use Rattle.protocol.specs.declared.List.{List as ListSlot}
use Rattle.protocol.specs.Decode.{tag_at}
use Rattle.protocol.specs.Fields.{signed_count}
use Rattle.protocol.specs.Kinds.{typed, data_row, nullable}
use Rattle.protocol.specs.Lines.{line_of}
use Rattle.protocol.specs.Reading.{Read, got, bad, pass_items, read_count}
use Rattle.protocol.specs.Rules.{rules_of}
use Rattle.envelope.specs.Steps.{end_in}
use Rattle.envelope.specs.Header as H
use Rattle.envelope.specs.Header.{Header}
use Rattle.row_builder.specs.Building.{columns_end, stands}
use Rattle.row_builder.specs.declared.Row.{Row}

-- ---- the head

abbrev pub ends_at : ℕ → Header → Bool
ends_at size (H.Frame end) = eqb end size
ends_at size H.NeedMore = false
ends_at size (H.Refused number place) = false

abbrev pub count_is : ℕ → Read ListSlot → Bool
count_is columns (got l next) = eqb l.count columns
count_is columns (bad number place) = false

-- type byte, length and count are the row's; its columns are not looked at
unfoldable pub headed : Row → List ℕ → Bool
headed row room =
    eqb (tag_at typed room) data_row.tag
    && (ends_at row.size (end_in typed (line_of data_row) room) && count_is row.columns (read_count signed_count 4 (take row.size room) 5))

-- ---- the columns

abbrev pub end_by : ℕ → ℕ → Read (Unit {0}) → Option ℕ
end_by start end (got _ next) = cond (eqb next end) (Some start) None
end_by start end (bad number place) = None

abbrev pub walk_by : ℕ → List ℕ → Read (Unit {0}) → Option ℕ
walk_by behind frame (got _ start) = end_by start (length frame) (pass_items (rules_of 1) nullable behind frame start)
walk_by behind frame (bad number place) = None

-- past some columns, and past those behind them to the frame's end: where the ones behind start
unfoldable pub walk_of : ℕ → ℕ → List ℕ → Option ℕ
walk_of columns behind frame = walk_by behind frame (pass_items (rules_of 1) nullable columns frame 7)

-- ---- both

unfoldable pub last_column_of : Row → List ℕ → Option ℕ
last_column_of row room = cond (stands row room) (Some (columns_end (row.columns - 1) (take row.size room))) None
