-- Where a fault stands, reading refuses with its number at its place: for atoms, items, lists, fields and bodies.
use Prim.Native.Nat.{ℕ, zero, suc, ◌+◌, ◌-◌, ◌*◌, ◌≤◌, ◌<◌}
use mathlib.Core.Bool.{Bool, true, false, cond, not, ◌&&◌, false≢true}
use mathlib.Core.List.{List, [], ◌∷◌, ◌++◌, append_assoc}
use mathlib.Core.Logic.{◌⊎◌, inl, inr}
use mathlib.Core.Option.{none, some}
use mathlib.Core.Path.{◌≡◌, refl, ap, sym, ◌∙◌}
use native.Mathlib.Omega.{arith}
use borrow.Author.Tests.{lt-leb, le-leb, lt-ltb, ne_eqb, eqb-false, not-true}
use lib.Dec.{T, leb, leb→le, eqb}
use lib.IntN.{pos, negsuc}
use lib.ListN.{length, take, drop, length-append, length-drop, take-append-drop}
use lib.Seq.{drop-drop, drop-append_seam, length-take-le}
use Rattle.protocol.specs.declared.Rules.{Rules}
use Rattle.protocol.specs.Bytes.{no_zero, number_from, number_at}
use Rattle.protocol.specs.Decode.{closed}
use Rattle.protocol.specs.Each.{Each}
use Rattle.protocol.specs.Fields.{Atom, unsigned, signed, one_of, text, value, rest, atom_slot, atom_bytes, Item, ItemContent, ItemsInRange, item_bytes, item_slots, item_least, item_able, items_able, items_bytes, zero_first, none_ends, Count, count_of, Field, one, counted, ended, Slot, slot, bytes}
use Rattle.protocol.specs.Reading.{Read, got, bad, and_then, read_number, one_more, zero_in, text_at, read_text, value_at, read_value, read_atom, read_each, read_item, pass_items, count_at, read_count, read_counted, ended_from, read_ended, read}
use Rattle.protocol.specs.Refusals.{cut, bytes_left}
use Rattle.protocol.proofs.Find.{every}
use Rattle.protocol.proofs.Basics.{left_holds, right_holds}
use Rattle.laws.specs.Faults.{Short, AtomFault, AtomsFault, here, later, CountFault, ItemFault, EndedFault, FieldFault, BodyFault, left}
use Rattle.laws.proofs.Atoms.{atom_back}
use Rattle.laws.proofs.Bodies.{sane_field, field_back}
use Rattle.laws.proofs.Items.{both, in_item, in_item_sane, sane_item, item_back, item_least_lem}

-- ---- a string with no zero byte

none_by : (b : ℕ) (g : List ℕ) (t : Bool) → (no_zero g ≡ true → zero_in g ≡ none) → not t && no_zero g ≡ true → cond t (some 0) (one_more (zero_in g)) ≡ none
unfolding one_more
none_by b g true ih h = absurd (false≢true h)
none_by b g false ih h = rw (ih h) refl

no_zero_lem : (g : List ℕ) → no_zero g ≡ true → zero_in g ≡ none
unfolding zero_in no_zero
no_zero_lem [] h = refl
no_zero_lem (b ∷ g) h = none_by b g (eqb b 0) (no_zero_lem g) h

-- bytes that do not begin with zero
not_zero : (g t : List ℕ) → 1 ≤ length g → zero_first g ≡ false → number_at 1 (g ++ t) 0 ≡ 0 → ⊥
unfolding zero_first number_at number_from
not_zero [] t l z e = omega arith
not_zero (b ∷ g) t l z e = eqb-false b 0 z (omega arith)

module _ (f : List ℕ) where
  -- ---- right bytes at a place

  -- what is read of some bytes wherever they stand is read of them at p, and h stands after them
  record Past {S : Type 0} (read : List ℕ → ℕ → Read S) (v : ℕ → S) (b h : List ℕ) (p : ℕ) : Type 0 where
    is : read f p ≡ got (v p) (p + length b)
    after : drop (p + length b) f ≡ h
    within : p + length b ≤ length f

  past : {S : Type 0} (read : List ℕ → ℕ → Read S) (v : ℕ → S) (b h : List ℕ) (p : ℕ) → p ≤ length f → drop p f ≡ b ++ h
      → ((pre : List ℕ) → read (pre ++ (b ++ h)) (length pre) ≡ got (v (length pre)) (length pre + length b)) → Past read v b h p
  past read v b h p l split back =
      let pre = take p f in
      let long : length pre ≡ p = length-take-le p f l in
      let whole : pre ++ (b ++ h) ≡ f = ap (λ (g : List ℕ). pre ++ g) (sym split) ∙ take-append-drop p f in
      let size : length f - p ≡ length b + length h = sym (length-drop p f) ∙ ap length split ∙ length-append b h in
      record { is = rw (whole, long) at (back pre); after = sym (drop-drop (length b) p f) ∙ rw split (drop-append_seam b h); within = omega arith }

  module _ (rules : Rules) (p : ℕ) (l : p ≤ length f) where
    -- ---- atoms

    number_cut : (w number : ℕ) → Short w (drop p f) number → read_number w f p ≡ bad number p
    unfolding read_number
    number_cut w number h =
        let m : length f < p + w = omega (arith, simp length-drop at h.1) in
        rw (lt-leb _ _ m, h.0) refl

    number_there : (w : ℕ) → w ≤ length (drop p f) → read_number w f p ≡ got (number_at w (drop p f) 0) (p + w)
    unfolding read_number number_at
    number_there w h =
        let m : p + w ≤ length f = omega (arith, simp length-drop at h) in
        rw (le-leb _ _ m) refl

    atom_refused : (a : Atom) (number : ℕ) → AtomFault a (drop p f) number → read_atom rules a f p ≡ bad number p
    unfolding AtomFault read_text text_at read_value value_at
    atom_refused (unsigned w) number h = number_cut w number h
    atom_refused (signed w) number h = rw (number_cut w number h) refl
    atom_refused (one_of bs) number (inl h) = rw (number_cut 1 number h) refl
    atom_refused (one_of bs) number (inr h) = rw (number_there 1 h.1, h.2, h.0) refl
    atom_refused text number h = rw (no_zero_lem (drop p f) h.1, h.0) refl
    atom_refused value number (inl h) = rw (number_cut 4 number h) refl
    atom_refused value number (inr (inl h)) = rw (number_there 4 h.1, h.2.1, h.0) refl
    atom_refused value number (inr (inr h)) =
        let m : length f < p + 4 + h.2.0 = omega (arith, simp length-drop at h.2.2) in
        rw (number_there 4 h.1, h.2.1, lt-leb _ _ m, h.0) refl
    atom_refused rest number h = absurd h

  -- ---- items

  module _ (rules : Rules) where
    atoms_refused : (xs : List Atom) → T (every in_item xs) → (p number at : ℕ) (g : List ℕ) → p ≤ length f → drop p f ≡ g → AtomsFault rules xs g number at → read_each (read_atom rules) xs f p ≡ bad number (p + at)
    atoms_refused [] t p number at g l q x4 = elim x4 [ ]
    atoms_refused (a ∷ xs) t p number at g l q (here h) =
        let z : p ≡ p + 0 = omega arith in
        rw (atom_refused rules p l a number (rw (← q) at h)) (ap (bad number) z)
    atoms_refused (a ∷ xs) t p number at g l q (later {h = h} {first = first} {at = inside} before fault) =
        let s = left_holds (in_item a) (every in_item xs) t in
        let b = atom_bytes a before.content in
        let w = past (read_atom rules a) (λ n. atom_slot a n before.content) b h p l (q ∙ before.split) (atom_back rules a before.content h (in_item_sane a s) before.in_range before.writable before.last) in
        let r = atoms_refused xs (right_holds (in_item a) (every in_item xs) t) (p + length b) number inside h w.within w.after fault in
        let e : p + length b + inside ≡ p + (first + inside) = omega (arith, before.place) in
        rw (w.is, r) (ap (bad number) e)

    module _ (i : Item) (sane : T (sane_item i)) where
      inside_item : T (every in_item i.atoms)
      inside_item = left_holds (every in_item i.atoms) (leb 1 (item_least i)) sane

      one_byte : 1 ≤ item_least i
      one_byte = leb→le 1 (item_least i) (right_holds (every in_item i.atoms) (leb 1 (item_least i)) sane)

      -- an item that is right, before others
      item_past : (c : ItemContent i) (cs : List (ItemContent i)) (p : ℕ) (h : List ℕ) → p ≤ length f → drop p f ≡ items_bytes i (c ∷ cs) ++ h → ItemsInRange i (c ∷ cs) → items_able rules i (c ∷ cs) ≡ true
          → Past (read_item rules i) (λ n. item_slots i n c) (item_bytes i c) (items_bytes i cs ++ h) p
      unfolding items_bytes ItemsInRange items_able
      item_past c cs p h l q r a =
          past (read_item rules i) (λ n. item_slots i n c) (item_bytes i c) (items_bytes i cs ++ h) p l (q ∙ append_assoc (item_bytes i c) (items_bytes i cs) h)
          (λ pre. item_back rules i sane c pre (items_bytes i cs ++ h) r.0 (both _ _ a).0)

      -- right items, fewer than there should be, and a fault in the next
      pass_refused : (cs : List (ItemContent i)) (n p number at : ℕ) (h : List ℕ) → length cs < n → p ≤ length f → drop p f ≡ items_bytes i cs ++ h → ItemsInRange i cs → items_able rules i cs ≡ true → AtomsFault rules i.atoms h number at
          → pass_items rules i n f p ≡ bad number (p + (length (items_bytes i cs) + at))
      unfolding pass_items items_bytes ItemsInRange items_able
      pass_refused cs zero p number at h few l q r a fault = absurd (omega arith)
      pass_refused [] (suc n) p number at h few l q r a fault =
          let e : p + at ≡ p + (0 + at) = omega arith in
          rw (atoms_refused i.atoms inside_item p number at h l q fault) (ap (bad number) e)
      pass_refused (c ∷ cs) (suc n) p number at h few l q r a fault =
          let b = item_bytes i c in
          let w = item_past c cs p h l q r a in
          let ih = pass_refused cs n (p + length b) number at h (omega arith) w.within w.after r.1 (both (item_able rules i c) (items_able rules i cs) a).1 fault in
          let e : p + length b + (length (items_bytes i cs) + at) ≡ p + (length (b ++ items_bytes i cs) + at) = simp length-append (omega arith) in
          rw (w.is, ih) (ap (bad number) e)

      -- ---- lists that end in zero

      -- what stands where an item or a zero byte should: nothing, or an item that has a fault and does not begin with zero
      Stops : List ℕ → ℕ → ℕ → Type 0
      Stops h number at =
          ((number ≡ cut) × (h ≡ []) × (at ≡ 0))
          ⊎ ((1 ≤ length h) × (number_at 1 h 0 ≡ 0 → ⊥) × AtomsFault rules i.atoms h number at)

      stops_refused : (turns n p number at : ℕ) (h : List ℕ) → length h ≤ turns → p ≤ length f → drop p f ≡ h → Stops h number at → ended_from rules i turns f p n ≡ bad number (p + at)
      unfolding ended_from Stops
      stops_refused zero n p number at h few l q (inl s) =
          let e : p ≡ p + at = omega (arith, s.2) in
          rw s.0 (ap (bad cut) e)
      stops_refused (suc turns) n p number at h few l q (inl s) =
          let e : p ≡ p + at = omega (arith, s.2) in
          let none : length (drop p f) < 1 = rw (q ∙ s.1) (omega arith) in
          rw (number_cut rules p l 1 number (s.0, none)) (ap (bad number) e)
      stops_refused zero n p number at h few l q (inr s) = absurd (omega (arith, s.0))
      stops_refused (suc turns) n p number at h few l q (inr s) =
          let there = number_there rules p l 1 (rw q s.0) in
          rw (there, q, ne_eqb _ 0 s.1, atoms_refused i.atoms inside_item p number at h l q s.2) refl

      ended_refused : (cs : List (ItemContent i)) (turns n p number at : ℕ) (h : List ℕ) → length (items_bytes i cs) + length h ≤ turns → p ≤ length f → drop p f ≡ items_bytes i cs ++ h → ItemsInRange i cs → items_able rules i cs ≡ true → none_ends i cs ≡ true → Stops h number at
          → ended_from rules i turns f p n ≡ bad number (p + (length (items_bytes i cs) + at))
      unfolding ended_from items_bytes ItemsInRange items_able none_ends
      ended_refused [] turns n p number at h few l q r a z s =
          let e : p + at ≡ p + (0 + at) = omega arith in
          stops_refused turns n p number at h (omega arith) l q s ∙ ap (bad number) e
      ended_refused (c ∷ cs) zero n p number at h few l q r a z s = absurd (omega (arith, simp length-append at few, item_least_lem i c, one_byte))
      ended_refused (c ∷ cs) (suc turns) n p number at h few l q r a z s =
          let b = item_bytes i c in
          let t = items_bytes i cs ++ h in
          let w = item_past c cs p h l q r a in
          let ends = both (not (zero_first b)) (none_ends i cs) z in
          let first : 1 ≤ length b = omega (arith, item_least_lem i c, one_byte) in
          let front : drop p f ≡ b ++ t = q ∙ append_assoc b (items_bytes i cs) h in
          let there = number_there rules p l 1 (rw front (simp length-append (omega arith))) in
          let other : number_at 1 (drop p f) 0 ≡ 0 → ⊥ = rw front (not_zero b t first (not-true _ ends.0)) in
          let less : length (items_bytes i cs) + length h ≤ turns = omega (arith, simp length-append at few) in
          let ih = ended_refused cs turns (suc n) (p + length b) number at h less w.within w.after r.1 (both (item_able rules i c) (items_able rules i cs) a).1 ends.1 s in
          let e : p + length b + (length (items_bytes i cs) + at) ≡ p + (length (b ++ items_bytes i cs) + at) = simp length-append (omega arith) in
          rw (there, ne_eqb _ 0 other, w.is, ih) (ap (bad number) e)

      ended_field : (p number at : ℕ) → p ≤ length f → EndedFault rules i (drop p f) number at → read_ended rules i f p ≡ bad number (p + at)
      unfolding read_ended Stops
      ended_field p number at l h =
          let cs = h.items.contents in
          let size : length f - p ≡ length (items_bytes i cs) + length h.after = sym (length-drop p f) ∙ ap length h.items.split ∙ length-append (items_bytes i cs) h.after in
          let r = ended_refused cs (length f) 0 p number h.inside h.after (omega arith) l h.items.split h.items.in_range h.items.writable h.none h.fault in
          let e : p + (length (items_bytes i cs) + h.inside) ≡ p + at = omega (arith, h.place, h.items.place) in
          rw r (ap (bad number) e)

      -- ---- lists with a count

      module _ (k : Count) (p : ℕ) (l : p ≤ length f) where
        count_refused : (number : ℕ) → CountFault k i (drop p f) number → read_count k (item_least i) f p ≡ bad number p
        unfolding read_count count_at
        count_refused number (inl h) = rw (number_cut rules p l 2 number h) refl
        count_refused number (inr h) = rw (number_there rules p l 2 h.1) (by h.2)
          where
            by : ((n : ℕ) × (count_of k (number_at 2 (drop p f) 0) ≡ negsuc n)) ⊎ ((n : ℕ) × (count_of k (number_at 2 (drop p f) 0) ≡ pos n) × (length (drop 2 (drop p f)) < n * item_least i))
                → count_at (item_least i) (count_of k (number_at 2 (drop p f) 0)) f p (p + 2) ≡ bad number p
            by (inl w) = rw (w.1, h.0) refl
            by (inr w) =
                let less : length f - (p + 2) < w.0 * item_least i = omega (arith, simp length-drop at w.2) in
                rw (w.1, lt-leb _ _ less, h.0) refl

        item_refused : (number at : ℕ) → ItemFault rules k i (drop p f) number at → read_counted rules k i f p ≡ bad number (p + at)
        unfolding read_counted read_count count_at
        item_refused number at h =
            let c = h.count in
            let cs = h.items.contents in
            let within : p + 2 ≤ length f = omega (arith, simp length-drop at c.there) in
            let fit : h.n * item_least i ≤ length f - (p + 2) = omega (arith, simp length-drop at c.fit) in
            let split : drop (p + 2) f ≡ items_bytes i cs ++ h.after = sym (drop-drop 2 p f) ∙ h.items.split in
            let few : length cs < h.n = omega (arith, h.items.many, h.fewer) in
            let r = pass_refused cs h.n (p + 2) number h.inside h.after few within split h.items.in_range h.items.writable h.fault in
            let e : p + 2 + (length (items_bytes i cs) + h.inside) ≡ p + at = omega (arith, h.place, h.items.place) in
            rw (number_there rules p l 2 c.there, c.is, le-leb _ _ fit, r) (ap (bad number) e)

        counted_refused : (number at : ℕ) → FieldFault rules (counted k i) (drop p f) number at → read_counted rules k i f p ≡ bad number (p + at)
        unfolding FieldFault read_counted
        counted_refused number at (inl h) =
            let e : p ≡ p + at = omega (arith, h.1) in
            rw (count_refused number h.0) (ap (bad number) e)
        counted_refused number at (inr h) = item_refused number at h

    -- ---- fields and bodies

    field_refused : (x : Field) → T (sane_field x) → (p number at : ℕ) → p ≤ length f → FieldFault rules x (drop p f) number at → read rules x f p ≡ bad number (p + at)
    unfolding FieldFault
    field_refused (one a) t p number at l h =
        let e : p ≡ p + at = omega (arith, h.1) in
        atom_refused rules p l a number h.0 ∙ ap (bad number) e
    field_refused (counted k i) t p number at l h = counted_refused i t k p l number at h
    field_refused (ended i) t p number at l h = ended_field i t p number at l h

    -- the fields after the first are refused, and so are all
    later_by : {X : Type 0} {number place : ℕ} (x : Field) (xs : List Field) (make : Each Slot (x ∷ xs) → X) (u : Slot x) (r : Read (Each Slot xs))
        → and_then r (λ v q. closed f q (make (record { 0 = u; 1 = v }))) ≡ bad number place
        → and_then (and_then {Y = Each Slot (x ∷ xs)} r (λ v q. got (record { 0 = u; 1 = v }) q)) (λ v q. closed f q (make v)) ≡ bad number place
    later_by x xs make u (got v q) e = e
    later_by x xs make u (bad c y) e = e

    -- reading fields, and nothing after them
    pub body_refused : {X : Type 0} (xs : List Field) (make : Each Slot xs → X) → T (every sane_field xs) → (p number at : ℕ) (g : List ℕ) → p ≤ length f → drop p f ≡ g → BodyFault rules xs g number at
        → and_then (read_each (read rules) xs f p) (λ v q. closed f q (make v)) ≡ bad number (p + at)
    unfolding closed
    body_refused [] make t p number at g l q (left h) =
        let m : p < length f = omega (arith, simp length-drop at (rw (← q) at h)) in
        let e : p ≡ p + 0 = omega arith in
        rw (lt-ltb _ _ m) (ap (bad bytes_left) e)
    body_refused (x ∷ xs) make t p number at g l q (here h) = rw (field_refused x (left_holds (sane_field x) (every sane_field xs) t) p number at l (rw (← q) at h)) refl
    body_refused (x ∷ xs) make t p number at g l q (later {h = h} {first = first} {at = inside} before fault) =
        let s = left_holds (sane_field x) (every sane_field xs) t in
        let c = before.content in
        let b = bytes x c in
        let w = past (read rules x) (λ n. slot x n c) b h p l (q ∙ before.split) (field_back rules x c h s before.in_range before.writable before.last) in
        let ih = body_refused xs (λ v. make (record { 0 = slot x p c; 1 = v })) (right_holds (sane_field x) (every sane_field xs) t) (p + length b) number inside h w.within w.after fault in
        let e : p + length b + inside ≡ p + (first + inside) = omega (arith, before.place) in
        rw w.is (later_by x xs make (slot x p c) (read_each (read rules) xs f (p + length b)) ih ∙ ap (bad number) e)
