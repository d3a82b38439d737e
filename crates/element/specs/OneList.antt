-- A list of a message as the code has it, and what is known of where its items stand.
use Rattle.std.specs.Prelude.{ℕ, zero, suc, ◌+◌, ◌*◌, ◌≤◌, List, length}
use Rattle.std.specs.Prelude.{Option as Maybe, Some, None}
use Rattle.std.proofs.Math.Option.{Option, some, none}
use Rattle.protocol.specs.declared.List.{List as ListSlot}
use Rattle.protocol.specs.Elements.{Listed}
use Rattle.protocol.specs.Fields.{Item}
use Rattle.protocol.specs.Kinds.{oid, format, nullable, row_field, error_field, pair}
use Rattle.element.specs.declared.list.Sort.TheVariants as S
use Rattle.element.specs.declared.list.Sort.{Sort}

abbrev pub item_of : Sort → Item
item_of S.Oid = oid
item_of S.Format = format
item_of S.Value = nullable
item_of S.Field = row_field
item_of S.ErrorField = error_field
item_of S.Pair = pair

abbrev pub listed_of : Maybe (Sort × ListSlot) → Option Listed
listed_of (Some (sort, list)) = some (record { item = item_of sort; list = list })
listed_of None = none

-- list l of a kind that has this one
unfoldable pub only : Item → ListSlot → ℕ → Option Listed
only item list zero = some (record { item = item; list = list })
only item list (suc l) = none

-- the items of a list of one size stand within the frame, as decoding has checked: item n, and all
abbrev pub FitsAt : List ℕ → ℕ → ℕ → Sort → Type 0
FitsAt f start n S.Oid = start + n * 4 + 4 ≤ length f
FitsAt f start n S.Format = start + n * 2 + 2 ≤ length f
FitsAt f start n S.Value = Unit {0}
FitsAt f start n S.Field = Unit {0}
FitsAt f start n S.ErrorField = Unit {0}
FitsAt f start n S.Pair = Unit {0}

abbrev pub FitsSort : List ℕ → ListSlot → Sort → Type 0
FitsSort f l S.Oid = l.start + l.count * 4 ≤ length f
FitsSort f l S.Format = l.start + l.count * 2 ≤ length f
FitsSort f l S.Value = Unit {0}
FitsSort f l S.Field = Unit {0}
FitsSort f l S.ErrorField = Unit {0}
FitsSort f l S.Pair = Unit {0}

abbrev pub Fits : List ℕ → Maybe (Sort × ListSlot) → Type 0
Fits f (Some (sort, list)) = FitsSort f list sort
Fits f None = Unit {0}
