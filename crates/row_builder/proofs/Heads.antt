-- The head of a row at the room's start, and its last column, as the code finds them.
use Prim.Native.Nat.{ℕ, ◌+◌, ◌-◌, ◌<◌}
use Rattle.std.specs.Prelude.{Option, Some, None}
use Rattle.std.specs.Option.{is_some}
use mathlib.Core.Bool.{Bool, true, false, cond, and-false}
use mathlib.Core.List.{List, [], ◌∷◌}
use mathlib.Core.Path.{◌≡◌, refl, ap, sym, ◌∙◌}
use native.Mathlib.Omega.{arith}
use borrow.Author.Tests.{eq-eqb, ne_eqb}
use lib.Dec.{eqb}
use lib.ListN.{length, take}
use lib.Seq.{length-take-le}
use Rattle.protocol.specs.declared.List.{List as ListSlot}
use Rattle.protocol.specs.declared.Rules.{Rules}
use Rattle.protocol.specs.declared.refusal.Unread.TheVariants as U
use Rattle.protocol.specs.declared.refusal.Unread.{Unread}
use Rattle.protocol.specs.Bytes.{number_at, number_from}
use Rattle.protocol.specs.Decode.{tag_at}
use Rattle.protocol.specs.Fields.{signed_count}
use Rattle.protocol.specs.Kinds.{typed, data_row, nullable}
use Rattle.protocol.specs.Lines.{line_of}
use Rattle.protocol.specs.Reading.{Read, got, bad, and_then, pass_items, read_count}
use Rattle.protocol.specs.Rules.{rules_of}
use Rattle.protocol.proofs.Basics.{first_chosen, second_chosen, zero_one}
use Rattle.envelope.specs.Steps.{end_in, unread, Framed}
use Rattle.envelope.specs.Header as H
use Rattle.envelope.specs.Header.{Header as End}
use Rattle.row_builder.specs.Building.{columns_end, place_of, stands}
use Rattle.row_builder.specs.Steps.{count_is, ends_at, end_by, headed, last_column_of, walk_by, walk_of}
use Rattle.row_builder.specs.declared.Row.{Row}
use Rattle.row_builder.proofs.Standing.{at_end, headed_fits, stands_is, walk}
use Rattle.row_builder.proofs.Walks.{pass_split}

-- ---- the head

module _ (row : Row) where
  -- no byte, or another one
  pub no_byte : (room : List ℕ) → length room < 1 → false ≡ headed row room
  unfolding headed number_at number_from data_row
  no_byte [] h = refl
  no_byte (b ∷ bs) h = absurd (omega arith)

  pub other_byte : (room : List ℕ) {t : ℕ} → t ≡ tag_at typed room → (t ≡ data_row.tag → ⊥) → false ≡ headed row room
  unfolding headed
  other_byte room is h = rw (← is, ne_eqb _ _ h) refl

  module _ (room : List ℕ) where
    -- no frame, or one of another size
    end_is : (h : End) → h ≡ end_in typed (line_of data_row) room → ends_at row.size h ≡ false → false ≡ headed row room
    unfolding headed
    end_is h is e = rw (← is, e, and-false (eqb (tag_at typed room) data_row.tag)) refl

    pub no_frame : (u : Unread) → unread u ≡ end_in typed (line_of data_row) room → false ≡ headed row room
    no_frame U.NeedMore is = end_is H.NeedMore is refl
    no_frame (U.Refused r) is = end_is (unread (U.Refused r)) is refl

    module _ {f : List ℕ} (is-frame : Framed (end_in typed (line_of data_row) room) room f) where
      pub other_end : (length f ≡ row.size → ⊥) → false ≡ headed row room
      other_end ne = end_is (H.Frame (length f)) (sym is-frame.header) (ne_eqb _ _ ne)

      -- the count decides
      pub count_decides : {t : ℕ} {r : Read ListSlot} → t ≡ tag_at typed room → t ≡ data_row.tag → length f ≡ row.size → r ≡ read_count signed_count 4 f 5
          → count_is row.columns r ≡ headed row room
      unfolding headed
      count_decides {t} {r} tag is-tag same count =
          let bytes : f ≡ take row.size room = is-frame.bytes ∙ ap (λ (i : ℕ). take i room) same in
          let c : r ≡ read_count signed_count 4 (take row.size room) 5 = count ∙ ap (λ (s : List ℕ). read_count signed_count 4 s 5) bytes in
          rw (eq-eqb _ _ (sym tag ∙ is-tag), is-frame.header, eq-eqb _ _ same, ← c) refl

-- ---- the last column

end_by_lem : (size start : ℕ) (f : List ℕ) (r : Read (Unit {0})) → length f ≡ size → end_by start (length f) r ≡ cond (at_end size r) (Some start) None
end_by_lem size start f (got _ next) long = rw long refl
end_by_lem size start f (bad number place) long = refl

walk_by_lem : (size m : ℕ) (f : List ℕ) (r : Read (Unit {0})) → length f ≡ size
    → walk_by m f r ≡ cond (at_end size (and_then r (λ _ q. pass_items (rules_of 1) nullable m f q))) (Some (place_of r)) None
walk_by_lem size m f (got _ start) long = end_by_lem size start f (pass_items (rules_of 1) nullable m f start) long
walk_by_lem size m f (bad number place) long = refl

-- as the code walks: the first walk's refusal, or its end and then the second walk
module _ {rules : Rules} (is : rules ≡ rules_of 1) (n m : ℕ) (f : List ℕ) where
  pub walk_refused : {number place : ℕ} → bad number place ≡ pass_items rules nullable n f 7 → None ≡ walk_of n m f
  unfolding walk_of
  walk_refused e = let h = rw is at e in rw (← h) refl

  pub walk_on : {start : ℕ} {r : Read (Unit {0})} → got tt start ≡ pass_items rules nullable n f 7 → r ≡ pass_items rules nullable m f start → end_by start (length f) r ≡ walk_of n m f
  unfolding walk_of
  walk_on {start} e g = let h = rw is at e in let k = rw is at g in rw (← h) (ap (end_by start (length f)) k)

-- the second walk ends where the frame does, or elsewhere
module _ (start : ℕ) {next end : ℕ} {l : Option ℕ} where
  pub at_its_end : end_by start end (got tt next) ≡ l → next ≡ end → Some start ≡ l
  at_its_end h e = rw (eq-eqb next end e) at h

  pub elsewhere : end_by start end (got tt next) ≡ l → (next ≡ end → ⊥) → None ≡ l
  elsewhere h e = rw (ne_eqb next end e) at h

-- the last column is behind all others, if there is one
pub column_is : (row : Row) (room : List ℕ) (n m : ℕ) → headed row room ≡ true → n + m ≡ row.columns → n ≡ row.columns - 1 → walk_of n m (take row.size room) ≡ last_column_of row room
unfolding walk_of last_column_of columns_end
column_is row room n m h all before =
    let f = take row.size room in
    let long : length f ≡ row.size = length-take-le _ _ (headed_fits row room h).within in
    let one : walk row.columns f ≡ and_then (walk n f) (λ _ q. pass_items (rules_of 1) nullable m f q) = rw (← all) (pass_split (rules_of 1) f n m 7) in
    walk_by_lem row.size m f (walk n f) long ∙ rw (stands_is row room, h, one, ← before) refl

some_none : {s : ℕ} → Some s ≡ None → ⊥
some_none e = zero_one cc

none_some : {s : ℕ} → None ≡ Some s → ⊥
none_some e = zero_one cc

-- what the code is told
module _ (row : Row) (room : List ℕ) where
  pub no_row_lem : last_column_of row room ≡ None → stands row room ≡ false
  unfolding last_column_of
  no_row_lem e = (second_chosen (stands row room) some_none e).0

  pub row_there : {s : ℕ} → last_column_of row room ≡ Some s → (stands row room ≡ true) × (s ≡ columns_end (row.columns - 1) (take row.size room))
  unfolding last_column_of
  row_there e = let c = first_chosen (stands row room) none_some e in let made = c.1 in (c.0, cc)

-- whether there is a start to tell
told_by : (stood : Bool) (start : ℕ) → is_some (cond stood (Some start) None) ≡ stood
told_by true start = refl
told_by false start = refl

pub told_stands : (row : Row) (room : List ℕ) → is_some (last_column_of row room) ≡ stands row room
unfolding last_column_of
told_stands row room = told_by (stands row room) _
