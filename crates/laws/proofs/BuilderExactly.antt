-- Each answer of the builder, of any stored numbers and any bytes; and that a refused call leaves the room, row and columns.
use Prim.Native.Nat.{ℕ, ◌+◌, ◌-◌, ◌≤◌, ◌<◌}
use mathlib.Core.Bool.{Bool, true, false, cond, ◌&&◌}
use mathlib.Core.List.{List, [], ◌∷◌, ◌++◌}
use mathlib.Core.Logic.{◌↔◌, ◌⊎◌, inl, inr}
use mathlib.Core.Path.{◌≡◌, refl, ap, sym, ◌∙◌}
use native.Mathlib.Omega.{arith}
use borrow.Author.Tests.{ltb-true, ltb-false, lt-ltb, leb-true, leb-false, eqb-true, eqb-false}
use lib.Dec.{ltb, leb, eqb}
use lib.ListN.{length}
use Rattle.protocol.specs.Encoded as N
use Rattle.protocol.specs.Encoded.{Encoded}
use Rattle.protocol.specs.Answers.{success, refusal, Unsuccessful}
use Rattle.protocol.specs.Bytes.{Bytes}
use Rattle.protocol.specs.Fields.{value_bytes, most, signed_count}
use Rattle.protocol.specs.Kinds.{large_frame, data_row}
use Rattle.protocol.specs.Refusals.{not_representable, no_such_element}
use Rattle.protocol.proofs.Basics.{zero_one}
use Rattle.row_builder.specs.Building.{stands, built_by, of_built, begin_of, grow_of, drop_of, finish_of, left_by}
use Rattle.row_builder.specs.Built as B
use Rattle.row_builder.specs.Built.{Built}
use Rattle.row_builder.specs.declared.Row.{Row}
use Rattle.writers.specs.Writing.{verdict_of}
use Rattle.laws.specs.BuilderStatements.{Column, Stands, Standing, the_builder, BuildsExactly, BuilderExactly, KeepsTheRoom, append, drop_last, finish, LeavesAll}
use Rattle.laws.proofs.Answered.{built, built_refused, built_unsuccessful}
use Rattle.laws.proofs.Building.{dropped, judged_row}
use Rattle.laws.proofs.Columns.{Ends, empty, last, ends, frame_long, stored}
use Rattle.laws.proofs.Encoding.{yes, no, same, through, says_refused, says_done, Judged}
use Rattle.laws.proofs.Items.{both}
use Rattle.laws.proofs.Standing.{stands-true, standing, not_standing}

refused_is : {row : Row} {number place : ℕ} → B.Refused number place ≡ B.Is row → ⊥
refused_is e = zero_one cc

-- ---- an answer, by its verdict

-- an answer's case, by what it is set out as
built_no : {b : Built} {number place : ℕ} → (of_built b ≡ refusal number place) ↔ (b ≡ B.Refused number place)
unfolding of_built
built_no = (built_refused, λ e. rw e refl)

built_yes : {b : Built} {row : Row} → (of_built b ≡ success row 0) ↔ (b ≡ B.Is row)
unfolding of_built
built_yes = (built, λ e. rw e refl)

module _ (k : ℕ) where
  verdict_no : (r : Encoded) {number place : ℕ} → (built_by k r ≡ B.Refused number place) ↔ (r ≡ N.Refused number place)
  unfolding built_by
  verdict_no (N.Done n) = no (λ e. zero_one cc) (λ e. zero_one cc)
  verdict_no (N.Refused number place) = (λ e. cc, λ e. cc)

  verdict_yes : (r : Encoded) (row : Row) → (built_by k r ≡ B.Is row) ↔ ((n : ℕ) × (r ≡ N.Done n) × (row ≡ record { columns = k; size = n }))
  unfolding built_by
  verdict_yes (N.Done n) row = (λ e. let q : ◌≡◌ {A = Row} (record { columns = k; size = n }) row = cc in (n, refl, sym q), λ h. let e : n ≡ h.0 = let f = h.1 in cc in ap B.Is (rw e (sym h.2)))
  verdict_yes (N.Refused number place) row = no (λ e. zero_one cc) (λ h. let e = h.1 in zero_one cc)

  judged_no : {r : Encoded} {number place : ℕ} {X : Type 0} → (r ≡ N.Refused number place) ↔ X → (of_built (built_by k r) ≡ refusal number place) ↔ X
  judged_no {r} h = through built_no (through (verdict_no r) h)

  judged_yes : {A B C : Type 0} {r : Encoded} {m : ℕ} → Judged A B C r m → (row : Row) → (of_built (built_by k r) ≡ success row 0) ↔ ((A × B × C) × (row ≡ record { columns = k; size = m }))
  judged_yes {r = r} {m = m} j row =
      through built_yes
      (through (verdict_yes r row)
      (λ h. let w = (j.done h.0).0 h.1 in (w.0, h.2 ∙ ap (λ (n : ℕ). record { columns = k; size = n }) w.1), λ h. (m, (j.done m).1 (h.0, refl), h.1)))

-- a test that fails
not_le : (a b : ℕ) → (a ≤ b → ⊥) ↔ (b < a)
not_le a b = (λ h. by (leb a b) refl h, λ h l. omega arith)
  where
    by : (t : Bool) → leb a b ≡ t → (a ≤ b → ⊥) → b < a
    by true e h = absurd (h (leb-true a b e))
    by false e h = leb-false a b e

-- ---- exactly

beginning : (room : List ℕ) → Judged (Unit {0}) (Unit {0}) (7 ≤ length room) (verdict_of true data_row.limit data_row.smallest 1 (length room)) 7
unfolding data_row
beginning room = judged_row true data_row.limit data_row.smallest 1 (length room) _ _ _ (yes tt refl) (λ _. yes tt (omega arith)) (λ _. same)

module _ (row : Row) (room : List ℕ) (c : Column) (b : Bytes room) where
  abbrev n : ℕ
  n = length (value_bytes c)

  -- stands, and may have a column more
  abbrev Grows : Type 0
  Grows = Standing row room × (row.columns < most signed_count)

  large_size : Grows → row.size - 1 + n + 1 ≡ row.size + n
  large_size h = omega (arith, h.0.1.size, frame_long h.0.0)

  appending :
      Judged Grows (row.size + n ≤ large_frame) (row.size + n ≤ length room)
      (verdict_of (stands row room && ltb row.columns (most signed_count)) data_row.limit (row.size - 1 + n) 1 (length room)) (row.size - 1 + n + 1)
  unfolding data_row
  appending =
      judged_row (stands row room && ltb row.columns (most signed_count)) data_row.limit (row.size - 1 + n) 1 (length room) _ _ _
      (λ h. rw (stands-true h.0.1, lt-ltb _ _ h.1) refl, λ e. let t = both (stands row room) (ltb row.columns (most signed_count)) e in (standing row room b t.0, ltb-true _ _ t.1))
      (λ h. (λ l. omega (arith, large_size h), λ l. omega (arith, large_size h)))
      (λ h. (λ l. omega (arith, large_size h), λ l. omega (arith, large_size h)))

  cannot : (Grows → ⊥) ↔ ((Standing row room → ⊥) ⊎ (most signed_count ≤ row.columns))
  cannot = (by (stands row room) (ltb row.columns (most signed_count)) refl refl, back)
    where
      by : (t u : Bool) → stands row room ≡ t → ltb row.columns (most signed_count) ≡ u → (Grows → ⊥) → (Standing row room → ⊥) ⊎ (most signed_count ≤ row.columns)
      by false u e f h = inl (not_standing row room e)
      by true true e f h = absurd (h (standing row room b e, ltb-true _ _ f))
      by true false e f h = inr (ltb-false _ _ f)

      back : (Standing row room → ⊥) ⊎ (most signed_count ≤ row.columns) → Grows → ⊥
      back (inl h) g = h g.0
      back (inr h) g = omega (arith, g.1)

  -- dropping and finishing, by whether the row stands
  dropping : (t u : Bool) → stands row room ≡ t → eqb row.columns 0 ≡ u → (next : Row)
      → let r = cond t (cond u (B.Refused no_such_element 0) (B.Is next)) (B.Refused not_representable 0) in
      ((r ≡ B.Refused not_representable 0) ↔ (Standing row room → ⊥)) × ((r ≡ B.Refused no_such_element 0) ↔ (Standing row room × (row.columns ≡ 0)))
  dropping false u e f next = (yes refl (not_standing row room e), no (λ h. zero_one cc) (λ h. not_standing row room e h.0))
  dropping true true e f next =
      let s = standing row room b e in
      (no (λ h. zero_one cc) (λ h. h s), yes refl (s, eqb-true _ _ f))
  dropping true false e f next =
      let s = standing row room b e in
      (no (λ h. zero_one cc) (λ h. h s), no (λ h. zero_one cc) (λ h. eqb-false _ _ f h.1))

  -- the row that a drop gives
  abbrev Dropped : Row → Type 0
  Dropped next = (cs : List Column) × (d : Column) × Stands row room (cs ++ d ∷ []) × (next ≡ stored cs)

  drop_ends : {cs : List Column} (next : Row) → Ends cs → Stands row room cs → drop_of row room ≡ B.Is next → Dropped next
  unfolding drop_of
  drop_ends next empty s e = let r = (dropping (stands row room) (eqb row.columns 0) refl refl _).1.1 (([], s), s.columns) in absurd (refused_is (sym r ∙ e))
  drop_ends next (last cs d) s e = let is = sym e ∙ dropped row room cs d s in (cs, d, s, cc)

  drop_found : (next : Row) (t : Bool) → stands row room ≡ t → drop_of row room ≡ B.Is next → Dropped next
  unfolding drop_of
  drop_found next true t e = let s = standing row room b t in drop_ends next (ends s.0) s.1 e
  drop_found next false t e = let r = rw t at e in absurd (refused_is r)

  drop_done : (next : Row) → (drop_of row room ≡ B.Is next) ↔ Dropped next
  drop_done next = (drop_found next (stands row room) refl, λ h. dropped row room h.0 h.1 h.2 ∙ ap B.Is (sym h.3))

  finishing : (t : Bool) → stands row room ≡ t
      → let r = cond t (N.Done row.size) (N.Refused not_representable 0) in
      ((r ≡ N.Refused not_representable 0) ↔ (Standing row room → ⊥)) × ((j : ℕ) → (r ≡ N.Done j) ↔ (Standing row room × (j ≡ row.size)))
  finishing false e = (yes refl (not_standing row room e), λ j. no (λ h. zero_one cc) (λ h. not_standing row room e h.0))
  finishing true e =
      let s = standing row room b e in
      (no (λ h. zero_one cc) (λ h. h s), λ j. (λ h. (s, cc), λ h. ap N.Done (sym h.1)))

  exactly : BuildsExactly the_builder row room c
  unfolding begin_of grow_of drop_of finish_of
  exactly =
      let g = beginning room in
      let a = appending in
      let d = dropping (stands row room) (eqb row.columns 0) refl refl _ in
      let f = finishing (stands row room) refl in
      let k = row.columns + 1 in
      record {
        begin_nine = judged_no 0 (through g.nine (λ h. (not_le 7 (length room)).0 h.2, λ h. (tt, tt, (not_le 7 (length room)).1 h)));
        begun = λ next. through (judged_yes 0 g next) (λ h. (h.0.2, h.1), λ h. ((tt, tt, h.0), h.1));
        append_ten = judged_no k (through a.ten cannot);
        append_four = judged_no k
            (through a.four (λ h. (h.0.0, h.0.1, (not_le _ _).0 h.1), λ h. ((h.0, h.1), (not_le _ _).1 h.2)));
        append_nine = judged_no k
            (through a.nine (λ h. (h.0.0, h.0.1, h.1, (not_le _ _).0 h.2), λ h. ((h.0, h.1), h.2, (not_le _ _).1 h.3)));
        appended = λ next.
            through (judged_yes k a next) (
              λ h. (h.0.0.0, h.0.0.1, h.0.1, h.0.2, h.1 ∙ ap (λ (n : ℕ). record { columns = k; size = n }) (large_size h.0.0)),
              λ h. (((h.0, h.1), h.2, h.3), h.4 ∙ ap (λ (n : ℕ). record { columns = k; size = n }) (sym (large_size (h.0, h.1)))),
            );
        drop_ten = through built_no d.0;
        drop_eleven = through built_no d.1;
        dropped = λ next. through built_yes (drop_done next);
        finish_ten = through says_refused f.0;
        finished = λ j. through says_done (f.1 j);
      }

pub builder_exactly : BuilderExactly the_builder
builder_exactly = exactly

-- ---- refused, nothing changes

pub left_kept : (b : Built) (p : ℕ) (xs room : List ℕ) → Unsuccessful (of_built b) → left_by b p xs room ≡ room
unfolding left_by
left_kept b p xs room h = let r = built_unsuccessful b h in rw r.2 refl

pub keeps_the_room : KeepsTheRoom the_builder
keeps_the_room = record {
  begin = λ room h. left_kept _ _ _ _ h;
  append = λ row c room h. left_kept _ _ _ _ h;
  drop_last = λ row room h. left_kept _ _ _ _ h;
}

pub leaves_all : LeavesAll the_builder
unfolding left_by
leaves_all h (append c) e = let r = built_unsuccessful _ e in rw r.2 refl
leaves_all h drop_last e = let r = built_unsuccessful _ e in rw r.2 refl
leaves_all h finish e = refl
