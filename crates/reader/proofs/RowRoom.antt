-- When a message is no row, and when there is room for one.
use Prim.Native.Nat.{ℕ, ◌≤◌, ◌<◌}
use mathlib.Core.Bool.{Bool, true, false, cond, ◌&&◌, and-false}
use mathlib.Core.List.{List}
use mathlib.Core.Logic.{◌⊎◌, inl, inr}
use mathlib.Core.Option.{Option, some, none}
use mathlib.Core.Path.{◌≡◌, refl, ap, sym, subst, ◌∙◌}
use borrow.Author.Tests.{leb-true, le-leb, lt-leb}
use lib.Dec.{eqb, leb}
use lib.ListN.{length}
use Rattle.protocol.specs.Decoded as D
use Rattle.protocol.specs.Decoded.{Decoded}
use Rattle.protocol.specs.declared.Message.TheVariants as M
use Rattle.protocol.specs.declared.Message.{Message}
use Rattle.protocol.specs.declared.data.DataRow.{DataRow}
use Rattle.protocol.specs.declared.List.{List as ListSlot}
use Rattle.protocol.specs.declared.Rules.{Rules}
use Rattle.protocol.specs.Each.{Each}
use Rattle.protocol.specs.Elements.{list_in, list_of}
use Rattle.protocol.specs.Fields.{Slot}
use Rattle.protocol.specs.Kinds.{Kind, Mode, modes, the_table, data_row}
use Rattle.protocol.specs.Views.{view, kind_number, is_kind}
use Rattle.protocol.proofs.Find.{All}
use Rattle.protocol.proofs.Framed.{record_size}
use Rattle.protocol.proofs.Basics.{zero_one}
use Rattle.protocol.proofs.Views.{made, each_row}
use Rattle.protocol.specs.Decode.{decode_of}
use Rattle.protocol.specs.Refusals.{no_such_element, output_too_short}
use Rattle.reader.specs.RowAnswer as R
use Rattle.reader.specs.RowAnswer.{Row}
use Rattle.std.proofs.Common.{Err}
use Rattle.protocol.specs.Told.{decoded}
use Rattle.protocol.specs.declared.refusal.Unread.TheVariants as U
use Rattle.protocol.specs.declared.refusal.Unread.{Unread}
use Rattle.reader.specs.Row.{row_by, row_fits, row_in, row_told}

-- ---- which message is a row

-- a DataRow's own list
pub row_in_lem : (r : DataRow) → row_in (M.DataRow r) ≡ some r.«data»
unfolding row_in is_kind list_of list_in view data_row
row_in_lem r = refl

-- so a message that is a row is a DataRow
abbrev If : Bool → Type 0 → Type 0
If true P = P
If false P = Unit {0}

abbrev RowKind : Kind → Type 0
RowKind k = If (eqb (kind_number data_row) (kind_number k)) (k ≡ data_row)

row_kinds : All (λ (m : Mode). All RowKind m.kinds) modes
unfolding the_table
row_kinds = search tt depth 60 fits 5000

of_row : (s : Each Slot data_row.body) → (row : DataRow) × (data_row.message s ≡ M.DataRow row)
unfolding data_row
of_row s = (record { «data» = s.0 }, refl)

row_made : (k : Kind) (s : Each Slot k.body) → k ≡ data_row → (row : DataRow) × (k.message s ≡ M.DataRow row)
row_made k s e = subst (λ (k : Kind). (s : Each Slot k.body) → (row : DataRow) × (k.message s ≡ M.DataRow row)) (sym e) of_row s

row_of_kind : (m : Message) → is_kind data_row m ≡ true → (row : DataRow) × (m ≡ M.DataRow row)
unfolding is_kind
row_of_kind m e =
    let w = row_made (view m).kind (view m).slots (subst (λ (t : Bool). If t ((view m).kind ≡ data_row)) e (each_row RowKind row_kinds m)) in
    (w.0, sym (made m) ∙ w.1)

-- and one that is no DataRow has no row
no_row_lem : (m : Message) → ((r : DataRow) → m ≡ M.DataRow r → ⊥) → row_in m ≡ none
unfolding row_in
no_row_lem m h = by (is_kind data_row m) _ refl
  where
    by : (t : Bool) (list : Option ListSlot) → is_kind data_row m ≡ t → cond t list none ≡ none
    by true list e = let w = row_of_kind m e in absurd (h w.0 w.1)
    by false list e = refl

told_by : {P : Type 0} (t : Bool) (x : Option ListSlot) (l : ListSlot) → cond t x none ≡ some l → If t P → P
told_by true x l e h = h
told_by false x l e h = absurd (zero_one cc)

pub data-row : (m : Message) (l : ListSlot) → row_in m ≡ some l → (row : DataRow) × (m ≡ M.DataRow row) × (row.«data» ≡ l)
unfolding row_in is_kind
data-row m l e =
    let w = row_made (view m).kind (view m).slots (told_by (is_kind data_row m) _ l e (each_row RowKind row_kinds m)) in
    let is : m ≡ M.DataRow w.0 = sym (made m) ∙ w.1 in
    let list : some w.0.«data» ≡ some l = sym (row_in_lem w.0) ∙ ap row_in (sym is) ∙ e in
    (w.0, is, cc)

pub refused : (m : Message) → ((r : DataRow) → m ≡ M.DataRow r → ⊥) → (consumed starts lengths : ℕ) → R.Refused no_such_element 0 ≡ row_fits (row_in m) consumed starts lengths
unfolding row_fits
refused m h consumed starts lengths = rw (no_row_lem m h) refl

-- ---- the room for a row

module _ (l : ListSlot) (consumed starts lengths : ℕ) where
  pub too_few : (starts < l.count) ⊎ ((l.count ≤ starts) × (lengths < l.count)) → R.Refused output_too_short 0 ≡ row_fits (some l) consumed starts lengths
  unfolding row_fits
  too_few (inl h) = rw (lt-leb _ _ h) refl
  too_few (inr h) = rw (lt-leb _ _ h.1, and-false (leb l.count starts)) refl

  pub enough : l.count ≤ starts → l.count ≤ lengths → R.Is l consumed ≡ row_fits (some l) consumed starts lengths
  unfolding row_fits
  enough h g = rw (le-leb _ _ h, le-leb _ _ g) refl

-- ---- decoding's other answers

pub unread : (u : Unread) (starts lengths : ℕ) → row_told (Err u) ≡ row_by (decoded (Err u)) starts lengths
unfolding row_by
unread U.NeedMore starts lengths = refl
unread (U.Refused r) starts lengths = refl

-- ---- an answer that is a row

is_refused : {l : ListSlot} {n number place : ℕ} → R.Is l n ≡ R.Refused number place → ⊥
is_refused e = zero_one cc

is_waiting : {l : ListSlot} {n : ℕ} → R.Is l n ≡ R.NeedMore → ⊥
is_waiting e = zero_one cc

pub record IsRow (s : List ℕ) (starts lengths : ℕ) (l : ListSlot) (n : ℕ) : Type 0 where
  pub within : n ≤ length s
  pub for_starts : l.count ≤ starts
  pub for_lengths : l.count ≤ lengths

fits_by : (o : Option ListSlot) (consumed starts lengths : ℕ) (l : ListSlot) (n : ℕ) → R.Is l n ≡ row_fits o consumed starts lengths → (consumed ≡ n) × (l.count ≤ starts) × (l.count ≤ lengths)
unfolding row_fits
fits_by none consumed starts lengths l n e = absurd (is_refused e)
fits_by (some x) consumed starts lengths l n e = by (leb x.count starts) (leb x.count lengths) refl refl e
  where
    by : (a b : Bool) → leb x.count starts ≡ a → leb x.count lengths ≡ b → R.Is l n ≡ cond (a && b) (R.Is x consumed) (R.Refused output_too_short 0) → (consumed ≡ n) × (l.count ≤ starts) × (l.count ≤ lengths)
    by true true ea eb q = let same : l ≡ x = cc in (cc, rw same (leb-true _ _ ea), rw same (leb-true _ _ eb))
    by true false ea eb q = absurd (is_refused q)
    by false b ea eb q = absurd (is_refused q)

row_by_lem : (rules : Rules) (s : List ℕ) (d : Decoded) (starts lengths : ℕ) (l : ListSlot) (n : ℕ) → decode_of rules s ≡ d → R.Is l n ≡ row_by d starts lengths → IsRow s starts lengths l n
unfolding row_by
row_by_lem rules s (D.Record m k) starts lengths l n e q =
    let f = fits_by (row_in m) k starts lengths l n q in
    record { within = rw (← f.0) (record_size rules s e).1; for_starts = f.1; for_lengths = f.2 }
row_by_lem rules s D.NeedMore starts lengths l n e q = absurd (is_waiting q)
row_by_lem rules s (D.Refused number place) starts lengths l n e q = absurd (is_refused q)

pub is_row : (rules : Rules) (s : List ℕ) (starts lengths : ℕ) (l : ListSlot) (n : ℕ) → R.Is l n ≡ row_by (decode_of rules s) starts lengths → IsRow s starts lengths l n
is_row rules s starts lengths l n e = row_by_lem rules s (decode_of rules s) starts lengths l n refl e
