-- The frame of a row's columns: a head, and the columns' bytes one after the other. Its size, when it can be written, and what an encoder of it answers.
use Prim.Native.Nat.{ℕ, suc, ◌+◌, ◌-◌, ◌≤◌}
use mathlib.Core.Bool.{true, and-true}
use mathlib.Core.List.{List, [], ◌∷◌, ◌++◌, append-nil, append_assoc}
use mathlib.Core.Logic.{◌↔◌, inl, inr}
use mathlib.Core.Option.{some}
use mathlib.Core.Path.{◌≡◌, refl, ap, sym, ◌∙◌}
use native.Mathlib.Omega.{arith}
use borrow.Author.Tests.{leb-true, le-leb}
use lib.Dec.{leb}
use lib.ListN.{length, length-append}
use Rattle.protocol.specs.Bytes.{be}
use Rattle.protocol.specs.Each.{bytes_of_each, able_each, HoldsEach}
use Rattle.protocol.specs.Encode.{items, encoded_by}
use Rattle.protocol.specs.Fields.{ValueInRange, AtomInRange, atom_able, value_bytes, atom_bytes, ItemInRange, item_able, item_bytes, items_bytes, ItemsInRange, items_able, most, signed_count, InRange, able, bytes}
use Rattle.protocol.specs.Kinds.{typed, large, nullable, data_row, backend, modes, the_table, IsIn, find, kind_in}
use Rattle.protocol.specs.Rules.{rules_of}
use Rattle.protocol.specs.WellFormed.{body_bytes, header, frame, AllInRange, all_able, WellFormed}
use Rattle.row_builder.specs.Building.{head_of}
use Rattle.row_builder.specs.declared.Row.{Row}
use Rattle.writers.specs.Writing.{verdict_of}
use Rattle.laws.specs.BuilderStatements.{Column, row_of, row_frame}
use Rattle.laws.proofs.Complete.{header_long}
use Rattle.laws.proofs.Numbers.{length-be}
use Rattle.laws.proofs.Table.{kind_found}

-- ---- columns, and columns as items

-- none, or a last one behind others
pub data Ends : List Column → Type 0 where
  empty : Ends []
  last : (cs : List Column) (c : Column) → Ends (cs ++ c ∷ [])

pub ends : (cs : List Column) → Ends cs
ends [] = empty
ends (x ∷ cs) = by (ends cs)
  where
    by : {ds : List Column} → Ends ds → Ends (x ∷ ds)
    by empty = last [] x
    by (last ds c) = last (x ∷ ds) c

pub length-items : {A : Type 0} (xs : List A) → length (items xs) ≡ length xs
length-items [] = refl
length-items (x ∷ xs) = ap suc (length-items xs)

-- the columns' bytes
abbrev pub values_of : List Column → List ℕ
values_of cs = items_bytes nullable (items cs)

pub values_snoc : (cs : List Column) (c : Column) → values_of (cs ++ c ∷ []) ≡ values_of cs ++ value_bytes c
unfolding items_bytes item_bytes bytes_of_each atom_bytes
values_snoc [] c = simp append-nil
values_snoc (x ∷ cs) c = rw (values_snoc cs c, append_assoc (value_bytes x ++ []) (values_of cs) (value_bytes c)) refl

-- each can be written
pub values_able : (cs : List Column) → items_able (rules_of 1) nullable (items cs) ≡ true
unfolding items_able item_able able_each atom_able
values_able [] = refl
values_able (c ∷ cs) = values_able cs

-- ---- the frame

-- the stored row of these columns
abbrev pub stored : List Column → Row
stored cs = record { columns = length cs; size = length (row_frame cs) }

body_is : (cs : List Column) → body_bytes data_row (row_of cs) ≡ be 2 (length cs) ++ values_of cs
unfolding body_bytes data_row row_of bytes_of_each bytes
body_is cs = rw (length-items cs, append-nil) refl

body_long : (cs : List Column) → length (body_bytes data_row (row_of cs)) ≡ 2 + length (values_of cs)
body_long cs = rw (body_is cs) (simp (length-append, length-be))

pub frame_long : (cs : List Column) → length (row_frame cs) ≡ 7 + length (values_of cs)
unfolding frame
frame_long cs = simp (length-append, header_long) (omega (arith, body_long cs))

pub able_few : (cs : List Column) → all_able (rules_of 1) data_row (row_of cs) ≡ leb (length cs) (most signed_count)
unfolding able_each data_row row_of able
able_few cs = rw (length-items cs, values_able cs) (simp and-true)

pub frame_is : (cs : List Column) → row_frame cs ≡ head_of (stored cs) ++ values_of cs
unfolding frame head_of
frame_is cs =
    let e : length (row_frame cs) - 5 ≡ length (body_bytes data_row (row_of cs)) = omega (arith, frame_long cs, body_long cs) in
    rw (e, append_assoc (header typed data_row.tag (length (body_bytes data_row (row_of cs)))) (be 2 (length cs)) (values_of cs), body_is cs) refl

pub head_long : (row : Row) → length (head_of row) ≡ 7
unfolding head_of
head_long row = simp (length-append, header_long, length-be)

-- ---- what an encoder of them answers: the builder's verdict
pub row_encoded : (cs : List Column) (room : ℕ) → encoded_by backend data_row (some (row_of cs)) room ≡ verdict_of (leb (length cs) (most signed_count)) data_row.limit (6 + length (values_of cs)) 1 room
unfolding encoded_by verdict_of backend
row_encoded cs room =
    let size : 4 + length (body_bytes data_row (row_of cs)) ≡ 6 + length (values_of cs) = omega (arith, body_long cs) in
    let whole : length (row_frame cs) ≡ 6 + length (values_of cs) + 1 = omega (arith, frame_long cs) in
    rw (able_few cs, size, whole) refl

-- ---- when the frame is well formed

in_range_lem : (cs : List Column) → AllInRange data_row (row_of cs) ↔ ItemsInRange nullable (items cs)
unfolding data_row row_of HoldsEach InRange
in_range_lem cs = (λ h. h.0, λ h. (h, tt))

pub record Right (cs : List Column) : Type 0 where
  pub in_range : ItemsInRange nullable (items cs)
  pub few : length cs ≤ most signed_count
  pub small : 6 + length (values_of cs) ≤ large

pub right : {cs : List Column} → WellFormed (rules_of 1) backend data_row (row_of cs) → Right cs
unfolding backend data_row
right {cs} w = record {
  in_range = (in_range_lem cs).0 w.in_range;
  few = leb-true _ _ (sym (able_few cs) ∙ w.writable);
  small = omega (arith, w.within_limit, body_long cs);
}

pub backend_in : IsIn backend modes
backend_in = inr (inl refl)

row_kind : IsIn data_row backend.kinds
unfolding the_table find kind_in
row_kind = ((kind_found backend backend_in data_row.tag data_row).0 refl).0

pub well : {cs : List Column} → Right cs → WellFormed (rules_of 1) backend data_row (row_of cs)
unfolding backend data_row
well {cs} r = record {
  known = backend_in;
  mode = refl;
  kind = row_kind;
  in_range = (in_range_lem cs).1 r.in_range;
  writable = able_few cs ∙ le-leb _ _ r.few;
  within_limit = omega (arith, r.small, body_long cs);
}

-- one column more, and one fewer
pub range_snoc : (cs : List Column) (c : Column) → ItemsInRange nullable (items (cs ++ c ∷ [])) ↔ (ItemsInRange nullable (items cs) × ValueInRange c)
unfolding ItemsInRange ItemInRange HoldsEach AtomInRange
range_snoc [] c = (λ h. (tt, h.0.0), λ h. ((h.1, tt), tt))
range_snoc (x ∷ cs) c = let r = range_snoc cs c in (λ h. ((h.0, (r.0 h.1).0), (r.0 h.1).1), λ h. (h.0.0, r.1 (h.0.1, h.1)))
