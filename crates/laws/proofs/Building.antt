-- What a call of the builder answers, and what it leaves in the room, is what an encoder does with the columns that there are to be.
use Prim.Native.Nat.{ℕ, ◌+◌, ◌-◌, ◌≤◌}
use mathlib.Core.Bool.{Bool, true, false}
use mathlib.Core.List.{List, [], ◌∷◌, ◌++◌, append_assoc}
use mathlib.Core.Logic.{◌↔◌}
use mathlib.Core.Option.{some}
use mathlib.Core.Path.{◌≡◌, refl, ap, sym, ◌∙◌}
use native.Mathlib.Omega.{arith}
use borrow.Author.Tests.{leb-true, leb-false, le-leb, le-ltb, lt-ltb, ne_eqb}
use lib.Dec.{leb, ltb}
use lib.ListN.{length, take, drop, length-append, length-drop, take-append-drop}
use lib.Seq.{set-append_seam, drop-append_seam, drop_at, drop-drop, length-take-le}
use Rattle.protocol.specs.Encoded as N
use Rattle.protocol.specs.Encoded.{Encoded}
use Rattle.protocol.specs.Each.{least_of_each}
use Rattle.protocol.specs.Encode.{items, encoded_by, written_by}
use Rattle.protocol.specs.Fields.{value_bytes, item_least, items_bytes, most, signed_count}
use Rattle.protocol.specs.Kinds.{large, nullable, data_row, backend}
use Rattle.protocol.specs.Reading.{got, pass_items}
use Rattle.protocol.specs.Rules.{rules_of}
use Rattle.row_builder.specs.Building.{built_by, begin_of, grow_of, append_of, columns_end, drop_of, head_of, left_by}
use Rattle.row_builder.specs.Built as B
use Rattle.row_builder.specs.Built.{Built}
use Rattle.row_builder.specs.declared.Row.{Row}
use Rattle.writers.specs.Writing.{write, verdict_of}
use Rattle.writers.proofs.Laws.{front}
use Rattle.laws.specs.BuilderStatements.{Column, row_of, row_frame, Stands, the_builder, encoded, BuildsAsEncoded}
use Rattle.laws.specs.EncodeStatements.{the_encoder}
use Rattle.laws.proofs.Columns.{length-items, values_of, values_snoc, values_able, stored, frame_long, frame_is, head_long, row_encoded, Right, right, range_snoc}
use Rattle.laws.proofs.Encoding.{same, through, le_exactly, Judged, judged}
use Rattle.laws.proofs.Items.{pass_back}
use Rattle.laws.proofs.Standing.{at_front, stands-true}

-- ---- stores

-- a run of stores behind f
write_behind : (f t xs : List ℕ) → length xs ≤ length t → write (f ++ t) (length f) xs ≡ f ++ (xs ++ drop (length xs) t)
write_behind f t [] h = refl
write_behind f [] (x ∷ xs) h = absurd (omega arith)
write_behind f (y ∷ t) (x ∷ xs) h =
    let e : length f + 1 ≡ length (f ++ x ∷ []) = simp length-append in
    rw (set-append_seam f y t x, ← append_assoc f (x ∷ []) t, e, write_behind (f ++ x ∷ []) t xs (omega arith), append_assoc f (x ∷ []) (xs ++ drop (length xs) t)) refl

-- a head over another
head_over : (h g t : List ℕ) → length h ≡ length g → write (g ++ t) 0 h ≡ h ++ t
head_over h g t e = front (g ++ t) h (simp length-append (omega arith)) ∙ rw (e, drop-append_seam g t) refl

-- ---- the answer and the room

-- the head of columns whose bytes are there already
laid : (cs : List Column) (g t : List ℕ) → length g ≡ 7 → write (g ++ (values_of cs ++ t)) 0 (head_of (stored cs)) ≡ row_frame cs ++ t
laid cs g t l =
    let h = head_of (stored cs) in
    head_over h g (values_of cs ++ t) (head_long (stored cs) ∙ sym l) ∙ sym (append_assoc h (values_of cs) t) ∙ ap (λ (f : List ℕ). f ++ t) (sym (frame_is cs))

-- the verdict, by its tests
pub judged_row : (able : Bool) (limit size uncounted room : ℕ) (A B C : Type 0) → A ↔ (able ≡ true) → (A → B ↔ (size ≤ limit)) → (A → C ↔ (size + uncounted ≤ room)) → Judged A B C (verdict_of able limit size uncounted room) (size + uncounted)
unfolding verdict_of
judged_row able limit size uncounted room A B C a b c =
    judged able (ltb limit size) (ltb room (size + uncounted)) (size + uncounted) A B C a
    (λ h. through (b h) (le_exactly size limit)) (λ h. through (c h) (le_exactly (size + uncounted) room))

-- what success of an encoder says
abbrev pub verdict : List Column → List ℕ → Encoded
verdict cs room = encoded_by backend data_row (some (row_of cs)) (length room)

pub record Fits (cs : List Column) (room : List ℕ) (n : ℕ) : Type 0 where
  pub few : length cs ≤ most signed_count
  pub small : 6 + length (values_of cs) ≤ large
  pub there : length (row_frame cs) ≤ length room
  pub size : n ≡ length (row_frame cs)

pub fits : (cs : List Column) (room : List ℕ) (n : ℕ) → (verdict cs room ≡ N.Done n) ↔ Fits cs room n
unfolding data_row
fits cs room n =
    let e = row_encoded cs (length room) in
    let j = (judged_row (leb (length cs) (most signed_count)) large (6 + length (values_of cs)) 1 (length room) _ _ _ same (λ _. same) (λ _. same)).done n in (
      λ d. let w = j.0 (sym e ∙ d) in record { few = leb-true _ _ w.0.0; small = w.0.1; there = omega (arith, w.0.2, frame_long cs); size = omega (arith, w.1, frame_long cs) },
      λ f. e ∙ j.1 ((le-leb _ _ f.few, f.small, omega (arith, f.there, frame_long cs)), omega (arith, f.size, frame_long cs)),
    )

-- an outcome is an encoder's, where the answer is of its verdict and success leaves its frame
left_by_lem : (cs : List Column) (p : ℕ) (xs room : List ℕ) (e : Encoded)
    → ((n : ℕ) → e ≡ N.Done n → write (write room p xs) 0 (head_of (record { columns = length cs; size = n })) ≡ row_frame cs ++ drop n room)
    → left_by (built_by (length cs) e) p xs room ≡ written_by backend data_row (some (row_of cs)) e room
unfolding built_by left_by written_by backend
left_by_lem cs p xs room (N.Done n) h = h n refl
left_by_lem cs p xs room (N.Refused number place) h = refl

outcome_is : (cs : List Column) (p : ℕ) (xs room : List ℕ) {answer : Built} → answer ≡ built_by (length cs) (verdict cs room)
    → (length (row_frame cs) ≤ length room → write (write room p xs) 0 (head_of (stored cs)) ≡ row_frame cs ++ drop (length (row_frame cs)) room)
    → record { answer = answer; room = left_by answer p xs room } ≡ encoded the_encoder cs room
outcome_is cs p xs room e h =
    rw e (ap (λ (r : List ℕ). record { answer = built_by (length cs) (verdict cs room); room = r }) (left_by_lem cs p xs room (verdict cs room) left))
  where
    left : (n : ℕ) → verdict cs room ≡ N.Done n → write (write room p xs) 0 (head_of (record { columns = length cs; size = n })) ≡ row_frame cs ++ drop n room
    left n d = let f = (fits cs room n).0 d in rw f.size (h f.there)

-- ---- the calls

begins : (room : List ℕ) → the_builder.begin room ≡ encoded the_encoder [] room
unfolding begin_of data_row items_bytes
begins room = outcome_is [] 0 [] room (ap (built_by 0) (sym (row_encoded [] (length room)))) left
  where
    left : length (row_frame []) ≤ length room → write room 0 (head_of (stored [])) ≡ row_frame [] ++ drop (length (row_frame [])) room
    left h =
        let l : length (take 7 room) ≡ 7 = length-take-le 7 room (omega (arith, frame_long [])) in
        rw (take-append-drop 7 room) at (laid [] (take 7 room) (drop 7 room) l) ∙ ap (λ (i : ℕ). row_frame [] ++ drop i room) (sym (frame_long []))

-- a count that may grow
one_more : (a b : ℕ) → ltb a b ≡ leb (a + 1) b
one_more a b = by (leb (a + 1) b) refl
  where
    by : (t : Bool) → leb (a + 1) b ≡ t → ltb a b ≡ t
    by true e = lt-ltb a b (omega (arith, leb-true (a + 1) b e))
    by false e = le-ltb a b (omega (arith, leb-false (a + 1) b e))

module _ (row : Row) (room : List ℕ) (cs : List Column) (c : Column) where
  abbrev more : List Column
  more = cs ++ c ∷ []

  abbrev bytes : List ℕ
  bytes = value_bytes c

  many : length more ≡ length cs + 1
  many = length-append cs (c ∷ [])

  -- the frame has the value's bytes more
  longer : length (row_frame more) ≡ length (row_frame cs) + length bytes
  longer = omega (arith, frame_long cs, frame_long more, simp length-append at (ap length (values_snoc cs c)))

  -- the value's bytes behind the frame
  behind : Stands row room cs → row.size + length bytes ≤ length room → write room row.size bytes ≡ head_of (stored cs) ++ (values_of more ++ drop (row.size + length bytes) room)
  behind s h =
      let t = drop row.size room in
      let g = head_of (stored cs) in
      let u = drop (length bytes) t in
      ap (λ (r : List ℕ). write r row.size bytes) (sym (at_front s))
      ∙ ap (λ (i : ℕ). write (row_frame cs ++ t) i bytes) s.size
      ∙ write_behind (row_frame cs) t bytes (simp length-drop (omega arith))
      ∙ ap (λ (f : List ℕ). f ++ (bytes ++ u)) (frame_is cs)
      ∙ append_assoc g (values_of cs) (bytes ++ u)
      ∙ ap (λ (v : List ℕ). g ++ v) (sym (append_assoc (values_of cs) bytes u) ∙ rw (← values_snoc cs c, drop-drop (length bytes) row.size room) refl)

  appends : Stands row room cs → the_builder.append row c room ≡ encoded the_encoder more room
  unfolding grow_of
  appends s = outcome_is more row.size bytes room answer left
    where
      answer : append_of row c room ≡ built_by (length more) (verdict more room)
      answer =
          let size : row.size - 1 + length bytes ≡ 6 + length (values_of more) = omega (arith, s.size, longer, frame_long cs, frame_long more) in
          rw (stands-true s, one_more row.columns (most signed_count), s.columns, size, row_encoded more (length room), many) refl

      left : length (row_frame more) ≤ length room → write (write room row.size bytes) 0 (head_of (stored more)) ≡ row_frame more ++ drop (length (row_frame more)) room
      left h =
          let e : row.size + length bytes ≡ length (row_frame more) = omega (arith, s.size, longer) in
          ap (λ (r : List ℕ). write r 0 (head_of (stored more))) (behind s (omega (arith, e)))
          ∙ laid more (head_of (stored cs)) (drop (row.size + length bytes) room) (head_long (stored cs)) ∙ ap (λ (i : ℕ). row_frame more ++ drop i room) e

  -- where the columns before the last end
  columns_end_lem : Right more → columns_end (length cs) (row_frame more) ≡ length (row_frame cs)
  unfolding columns_end item_least least_of_each
  columns_end_lem r =
      let g = head_of (stored more) in
      let f : row_frame more ≡ g ++ (values_of cs ++ bytes) = frame_is more ∙ ap (λ (v : List ℕ). g ++ v) (values_snoc cs c) in
      let p = pass_back (rules_of 1) nullable tt (items cs) g bytes ((range_snoc cs c).0 r.in_range).0 (values_able cs) in
      let q : pass_items (rules_of 1) nullable (length cs) (row_frame more) 7 ≡ got tt (length (row_frame cs)) = rw (length-items cs, ← f, head_long (stored more), ← frame_long cs) at p in
      rw q refl

  pub dropped : Stands row room more → drop_of row room ≡ B.Is (stored cs)
  unfolding drop_of
  dropped s =
      let n : row.columns - 1 ≡ length cs = omega (arith, s.columns, many) in
      rw (stands-true s, ne_eqb row.columns 0 (λ e. omega (arith, e, s.columns, many)), n, s.bytes, columns_end_lem (right s.well_formed)) refl

  drops : Stands row room more → the_builder.drop_last row room ≡ encoded the_encoder cs room
  unfolding built_by
  drops s = outcome_is cs 0 [] room answer left
    where
      g : List ℕ
      g = head_of (stored more)

      t : List ℕ
      t = bytes ++ drop row.size room

      split : g ++ (values_of cs ++ t) ≡ room
      split =
          rw (← append_assoc (values_of cs) bytes (drop row.size room), ← values_snoc cs c, ← append_assoc g (values_of more) (drop row.size room), ← frame_is more) (at_front s)

      there : length (row_frame cs) ≤ length room
      there = omega (arith, longer, length-append (row_frame more) (drop row.size room), ap length (at_front s))

      answer : drop_of row room ≡ built_by (length cs) (verdict cs room)
      answer =
          let r = right s.well_formed in
          let d : verdict cs room ≡ N.Done (length (row_frame cs)) = (fits cs room (length (row_frame cs))).1
          (record { few = omega (arith, r.few, many); small = omega (arith, r.small, longer, frame_long cs, frame_long more); there = there; size = refl }) in
          dropped s ∙ rw d refl

      left : length (row_frame cs) ≤ length room → write room 0 (head_of (stored cs)) ≡ row_frame cs ++ drop (length (row_frame cs)) room
      left h =
          let l : length (g ++ values_of cs) ≡ length (row_frame cs) = omega (arith, length-append g (values_of cs), head_long (stored more), frame_long cs) in
          let e : drop (length (row_frame cs)) room ≡ t = ap (drop (length (row_frame cs))) (sym split ∙ sym (append_assoc g (values_of cs) t)) ∙ drop_at (g ++ values_of cs) t (length (row_frame cs)) l in
          ap (λ (r : List ℕ). write r 0 (head_of (stored cs))) (sym split) ∙ laid cs g t (head_long (stored more)) ∙ ap (λ (u : List ℕ). row_frame cs ++ u) (sym e)

pub builds_as_encoded : BuildsAsEncoded the_builder the_encoder
builds_as_encoded = record { begins = begins; appends = appends; drops = drops }
