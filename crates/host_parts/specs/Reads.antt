-- The numbers that the reader's answers are laid out as.
use Rattle.std.specs.Prelude.{ℕ, List, [], ◌∷◌, ◌++◌, ◌≡◌, ℤ, length}
use Rattle.std.proofs.Math.Option.{Option, some, none}
use Rattle.protocol.specs.declared.Span.{Span}
use Rattle.protocol.specs.declared.data.FieldDescription.{FieldDescription}
use Rattle.protocol.specs.Decode.{decode_of}
use Rattle.protocol.specs.Each.{Each}
use Rattle.protocol.specs.Fields.{AtomSlot}
use Rattle.protocol.specs.Kinds.{data_row, error_field, pair}
use Rattle.protocol.specs.Reading.{Read, got, bad}
use Rattle.protocol.specs.Rules.{rules_of}
use Rattle.reader.specs.Row.{lengths_of, over, places_in, row_by, starts_of}
use Rattle.reader.specs.RowAnswer as R
use Rattle.reader.specs.RowAnswer.{Row}
use Rattle.host_layout.specs.LaidOut.{field_numbers, list, need_more_out, record_out, refused_out, span}

-- a value as an element is, with the next place for the bytes consumed
unfoldable pub value_out : Read (Option Span) → List ℕ
value_out (got none next) = record_out next (3 ∷ [])
value_out (got (some s) next) = record_out next (4 ∷ span s)
value_out (bad number place) = refused_out 16 number place

-- a row's field, an error's field and a pair as elements are, with the next place for the bytes consumed
unfoldable pub field_out : Read FieldDescription → List ℕ
field_out (got d next) = record_out next (5 ∷ field_numbers d)
field_out (bad number place) = refused_out 16 number place

unfoldable pub error_field_out : Read (Each AtomSlot error_field.atoms) → List ℕ
error_field_out (got (c, (s, tt)) next) = record_out next (6 ∷ c ∷ span s)
error_field_out (bad number place) = refused_out 16 number place

unfoldable pub pair_out : Read (Each AtomSlot pair.atoms) → List ℕ
pair_out (got (n, (v, tt)) next) = record_out next (7 ∷ span n ++ span v)
pair_out (bad number place) = refused_out 16 number place

-- a row as a record of its kind
unfoldable pub row_out : Row → List ℕ
row_out (R.Is l n) = record_out n (data_row.numbers ++ list l)
row_out R.NeedMore = need_more_out 16
row_out (R.Refused number place) = refused_out 16 number place

-- what the reader answers for lists of some length
abbrev pub row_read : List ℕ → List ℕ → List ℤ → Row
row_read s starts lengths = row_by (decode_of (rules_of 1) s) (length starts) (length lengths)

-- what is promised of the answer and of the two lists, before and after
pub record LaysRow (s starts₀ : List ℕ) (lengths₀ : List ℤ) (starts₁ : List ℕ) (lengths₁ : List ℤ) (out : List ℕ) : Type 0 where
  pub answer : out ≡ row_out (row_read s starts₀ lengths₀)
  pub starts : starts₁ ≡ over (starts_of (places_in (row_read s starts₀ lengths₀) s)) starts₀
  pub lengths : lengths₁ ≡ over (lengths_of (places_in (row_read s starts₀ lengths₀) s)) lengths₀
