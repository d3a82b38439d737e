-- After begin and any calls the room begins with the frame of the expected columns. One fact is kept by every call: that it stands so.
use Prim.Native.Nat.{ℕ, ◌+◌, ◌-◌, ◌≤◌}
use mathlib.Core.List.{List, [], ◌∷◌, ◌++◌}
use mathlib.Core.Option.{some, none}
use mathlib.Core.Path.{◌≡◌, refl, ap, sym, subst, ◌∙◌}
use native.Mathlib.Omega.{arith}
use borrow.Author.Tests.{eq-eqb}
use lib.ListN.{length, drop, length-append}
use lib.Seq.{take_at}
use Rattle.protocol.specs.Encoded as N
use Rattle.protocol.specs.Encoded.{Encoded}
use Rattle.protocol.specs.Answers.{success, of_encoded}
use Rattle.protocol.specs.Encode.{items, written_by}
use Rattle.protocol.specs.Fields.{ValueInRange, value_bytes, ItemsInRange}
use Rattle.protocol.specs.Kinds.{large, nullable, data_row, backend}
use Rattle.protocol.specs.Rules.{rules_of}
use Rattle.protocol.proofs.Basics.{zero_one}
use Rattle.row_builder.specs.Building.{built_by, of_built, drop_of, finish_of, left_by}
use Rattle.row_builder.specs.Built as B
use Rattle.row_builder.specs.declared.Row.{Row}
use Rattle.laws.specs.Arguments.{All}
use Rattle.laws.specs.BuilderStatements.{Outcome, Column, row_of, row_frame, Stands, the_builder, encoded, Held, Call, append, drop_last, finish, expected, held_by, called, after, CallInRange, IsBuilt, Histories}
use Rattle.laws.specs.EncodeStatements.{the_encoder}
use Rattle.laws.specs.Statements.{the_decoder, the_element_call}
use Rattle.laws.proofs.Answered.{built}
use Rattle.laws.proofs.Building.{verdict, Fits, fits, builds_as_encoded}
use Rattle.laws.proofs.Columns.{Ends, empty, last, ends, values_of, values_snoc, right, well, range_snoc}
use Rattle.laws.proofs.Encoding.{decodes}
use Rattle.laws.proofs.Numbers.{length-be}
use Rattle.laws.proofs.Standing.{stands-true}

-- ---- what an encoder leaves stands

-- where columns that are small enough are in range
abbrev Ranged : List Column → Type 0
Ranged cs = 6 + length (values_of cs) ≤ large → ItemsInRange nullable (items cs)

fits_stands : (cs : List Column) (room : List ℕ) (n : ℕ) → Ranged cs → Fits cs room n → Stands (record { columns = length cs; size = n }) (row_frame cs ++ drop n room) cs
fits_stands cs room n r f = record {
  well_formed = well (record { in_range = r f.small; few = f.few; small = f.small });
  bytes = take_at (row_frame cs) (drop n room) n (sym f.size);
  size = f.size;
  columns = refl;
}

-- a success stands, and a refusal leaves what stood
abbrev StandsOf : Held → Type 0
StandsOf h = Stands h.row h.room h.columns

module _ (h : Held) (s : StandsOf h) where
  kept_by : (cs : List Column) → Ranged cs → (e : Encoded) → verdict cs h.room ≡ e → StandsOf (held_by h cs (built_by (length cs) e) (written_by backend data_row (some (row_of cs)) e h.room))
  unfolding built_by written_by backend
  kept_by cs r (N.Done n) e = fits_stands cs h.room n r ((fits cs h.room n).0 e)
  kept_by cs r (N.Refused number place) e = s

  kept : (cs : List Column) → Ranged cs → {o : Outcome} → o ≡ encoded the_encoder cs h.room → StandsOf (held_by h cs o.answer o.room)
  kept cs r e = subst (λ (o : Outcome). StandsOf (held_by h cs o.answer o.room)) (sym e) (kept_by cs r (verdict cs h.room) refl)

-- ---- the calls

-- a value that a frame has room for is in range
value_ranged : (c : Column) → CallInRange (append c) → length (value_bytes c) ≤ large → ValueInRange c
unfolding value_bytes ValueInRange
value_ranged none r l = tt
value_ranged (some v) r l = (r, omega (arith, simp (length-append, length-be) at l))

dropped : (row : Row) (room : List ℕ) {cs : List Column} → Ends cs
    → let h : Held = record { row = row; room = room; columns = cs } in
    StandsOf h → StandsOf (called the_builder h drop_last)
unfolding drop_of left_by
dropped row room empty s = rw (stands-true s, eq-eqb row.columns 0 s.columns) s
dropped row room (last cs c) s =
    let e : expected drop_last (cs ++ c ∷ []) ≡ cs = take_at cs (c ∷ []) (length (cs ++ c ∷ []) - 1) (omega (arith, length-append cs (c ∷ []))) in
    rw e (kept _ s cs (λ _. ((range_snoc cs c).0 (right s.well_formed).in_range).0) (builds_as_encoded.drops row room cs c s))

step : (h : Held) (c : Call) → CallInRange c → StandsOf h → StandsOf (called the_builder h c)
step h (append c) r s = kept h s (h.columns ++ c ∷ []) ranged (builds_as_encoded.appends h.row h.room h.columns c s)
  where
    ranged : Ranged (h.columns ++ c ∷ [])
    ranged l =
        let long = simp length-append at (ap length (values_snoc h.columns c)) in
        (range_snoc h.columns c).1 ((right s.well_formed).in_range, value_ranged c r (omega arith))
step h drop_last r s = dropped h.row h.room (ends h.columns) s
step h finish r s = s

steps : (calls : List Call) (h : Held) → All CallInRange calls → StandsOf h → StandsOf (after the_builder h calls)
unfolding after All
steps [] h r s = s
steps (c ∷ calls) h r s = steps calls (called the_builder h c) r.1 (step h c r.0 s)

-- ---- the first

begun_by : (room : List ℕ) (row : Row) (e : Encoded) → verdict [] room ≡ e → built_by 0 e ≡ B.Is row → Stands row (written_by backend data_row (some (row_of [])) e room) []
unfolding built_by written_by backend ItemsInRange
begun_by room row (N.Done n) e b =
    let q : ◌≡◌ {A = Row} (record { columns = 0; size = n }) row = cc in
    rw (← q) (fits_stands [] room n (λ _. tt) ((fits [] room n).0 e))
begun_by room row (N.Refused number place) e b = absurd (zero_one cc)

begun_stands : (room : List ℕ) (row : Row) → of_built (the_builder.begin room).answer ≡ success row 0 → Stands row (the_builder.begin room).room []
begun_stands room row e =
    let same = builds_as_encoded.begins room in
    let answer = ap (λ (o : Outcome). o.answer) same in
    let left = ap (λ (o : Outcome). o.room) same in
    rw left (begun_by room row (verdict [] room) refl (sym answer ∙ built e))

-- ---- what is held is built

is_built : (h : Held) → StandsOf h → IsBuilt the_builder the_decoder the_element_call h
unfolding finish_of of_encoded backend
is_built h s = record {
  stands = s;
  finishes = rw (stands-true s) refl;
  decodes = λ t. rw (s.bytes, s.size) (decodes (rules_of 1) backend data_row (row_of h.columns) t s.well_formed);
}

pub histories : Histories the_builder the_decoder the_element_call
histories room row calls r e = is_built _ (steps calls _ r (begun_stands room row e))
