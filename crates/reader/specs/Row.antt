-- A whole row at once: an entry for each value, in two lists of numbers.
use Rattle.std.specs.Prelude.{ℕ, zero, suc, cond, ◌&&◌, List, [], ◌∷◌, ◌++◌, map, ◌≡◌, leb, ltb, ℤ, pos, negsuc, length, take, drop, Result, Ok, Err}
use Rattle.std.specs.Prelude.{Option as Maybe, Some, None}
use Rattle.std.proofs.Math.Option.{Option, some, none}
use Rattle.protocol.specs.Decoded as D
use Rattle.protocol.specs.Decoded.{Decoded}
use Rattle.protocol.specs.declared.List.{List as ListSlot}
use Rattle.protocol.specs.declared.Message.{Message}
use Rattle.protocol.specs.declared.Span.{Span}
use Rattle.protocol.specs.Answers.{Answer, success, needs_more, refusal}
use Rattle.protocol.specs.Bytes.{longest}
use Rattle.protocol.specs.Decode.{decode_of}
use Rattle.protocol.specs.Elements.{Listed, list_of}
use Rattle.protocol.specs.Kinds.{data_row}
use Rattle.protocol.specs.Reading.{Read, got, bad, read_value}
use Rattle.protocol.specs.Refusals.{no_such_element, output_too_short}
use Rattle.protocol.specs.Rules.{rules_of}
use Rattle.protocol.specs.Views.{is_kind}
use Rattle.protocol.specs.Told.{number_of}
use Rattle.protocol.specs.declared.refusal.Refused.{Refused}
use Rattle.protocol.specs.declared.refusal.Unread.TheVariants as U
use Rattle.protocol.specs.declared.refusal.Unread.{Unread}
use Rattle.reader.specs.declared.row.Entry.{Entry}
use Rattle.reader.specs.RowAnswer as R
use Rattle.reader.specs.RowAnswer.{Row}

-- ---- entries

-- a length as a signed word; a frame's limit keeps a value's far below the largest
abbrev pub length_word : ℕ → ℤ
length_word n = cond (ltb n (suc longest)) (pos n) (pos longest)

-- NULL starts at 0 and has the length -1
abbrev pub start_of : Option Span → ℕ
start_of none = 0
start_of (some s) = s.start

abbrev pub length_of : Option Span → ℤ
length_of none = negsuc 0
length_of (some s) = length_word s.len

unfoldable pub entry_of : Read (Option Span) → Maybe Entry
entry_of (got v next) = Some (record { start = start_of v; length = length_of v; next = next })
entry_of (bad number place) = None

pub record Place : Type 0 where
  pub start : ℕ
  pub length : ℤ

-- an entry for each of n values from p on; they end at the first that is refused
abbrev pub places_by : Maybe Entry → (ℕ → List Place) → List Place
places_by (Some e) rest = record { start = e.start; length = e.length } ∷ rest e.next
places_by None rest = []

unfoldable pub places_from : ℕ → List ℕ → ℕ → List Place
places_from zero f p = []
places_from (suc n) f p = places_by (entry_of (read_value f p)) (places_from n f)

-- ---- the answer

-- a row's values, where the message is a row: its list 0
abbrev slot_of : Option Listed → Option ListSlot
slot_of none = none
slot_of (some l) = some l.list

unfoldable pub row_in : Message → Option ListSlot
row_in m = cond (is_kind data_row m) (slot_of (list_of m 0)) none

-- the values and the bytes consumed, where both lists have room; 9 where they have not, 11 where the message is no row
unfoldable pub row_fits : Option ListSlot → ℕ → ℕ → ℕ → Row
row_fits none consumed starts lengths = R.Refused no_such_element 0
row_fits (some l) consumed starts lengths = cond (leb l.count starts && leb l.count lengths) (R.Is l consumed) (R.Refused output_too_short 0)

unfoldable pub row_by : Decoded → ℕ → ℕ → Row
row_by (D.Record m n) starts lengths = row_fits (row_in m) n starts lengths
row_by D.NeedMore starts lengths = R.NeedMore
row_by (D.Refused number place) starts lengths = R.Refused number place

-- what the code answers: of a message that n bytes were read for, and of a buffer
abbrev pub room_told : ℕ → Result ListSlot Refused → Row
room_told n (Ok l) = R.Is l n
room_told n (Err r) = R.Refused (number_of r.refusal) r.place

abbrev pub row_told : Result (ListSlot × ℕ) Unread → Row
row_told (Ok (l, n)) = R.Is l n
row_told (Err U.NeedMore) = R.NeedMore
row_told (Err (U.Refused r)) = R.Refused (number_of r.refusal) r.place

-- the row's values and the bytes consumed
unfoldable pub of_row : Row → Answer ListSlot
of_row (R.Is l n) = success l n
of_row R.NeedMore = needs_more
of_row (R.Refused number place) = refusal number place

-- ---- the two lists

-- what is laid over a list's start; later entries are kept
abbrev pub over : {A : Type 0} → List A → List A → List A
over xs ys = xs ++ drop (length xs) ys

abbrev pub places_in : Row → List ℕ → List Place
places_in (R.Is l n) s = places_from l.count (take n s) l.start
places_in R.NeedMore s = []
places_in (R.Refused number place) s = []

abbrev pub starts_of : List Place → List ℕ
starts_of xs = map (λ (x : Place). x.start) xs

abbrev pub lengths_of : List Place → List ℤ
lengths_of xs = map (λ (x : Place). x.length) xs

-- what is promised of the answer and of the two lists, before and after
pub record ReadsRow (s starts₀ : List ℕ) (lengths₀ : List ℤ) (r : Row) (starts₁ : List ℕ) (lengths₁ : List ℤ) : Type 0 where
  pub answer : r ≡ row_by (decode_of (rules_of 1) s) (length starts₀) (length lengths₀)
  pub starts : starts₁ ≡ over (starts_of (places_in r s)) starts₀
  pub lengths : lengths₁ ≡ over (lengths_of (places_in r s)) lengths₀
