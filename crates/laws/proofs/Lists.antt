-- Lists: a count and that many items, or items and a zero byte. Their bytes are read as them.
use Prim.Native.Nat.{ℕ, zero, suc, ◌+◌, ◌-◌, ◌*◌, ◌^◌, ◌≤◌, ◌<◌}
use mathlib.Core.Bool.{Bool, true, false, cond, ◌&&◌}
use mathlib.Core.List.{List, [], ◌∷◌, ◌++◌, append_assoc}
use mathlib.Core.Path.{◌≡◌, refl, ap, sym, ◌∙◌}
use native.Mathlib.Nat.{mul-le-mul_left}
use native.Mathlib.Omega.{arith}
use borrow.Author.Tests.{le-leb, leb-true, leb-false, not-true, eqb-true}
use lib.Dec.{T, leb, leb→le, eqb}
use lib.IntN.{pos}
use lib.ListN.{length, drop, length-append}
use Rattle.protocol.specs.declared.List.{List as ListSlot}
use Rattle.protocol.specs.declared.Rules.{Rules}
use Rattle.protocol.specs.Bytes.{Bytes, be}
use Rattle.protocol.specs.Each.{Each}
use Rattle.protocol.specs.Fields.{AtomSlot, Item, ItemContent, item_bytes, item_least, items_bytes, ItemsInRange, items_able, zero_first, none_ends, Count, count_of, most, Field, counted, ended, Slot, InRange, able, bytes, slot}
use Rattle.protocol.specs.Reading.{Read, got, bad, and_then, read_number, read_item, pass_items, count_at, read_count, read_counted, ended_from, read_ended, read}
use Rattle.protocol.proofs.Basics.{zero_one, negsuc-pos, right_holds}
use Rattle.protocol.proofs.Counts.{count_back, count_above, Counted, counted_is}
use Rattle.protocol.proofs.Find.{every}
use Rattle.laws.proofs.Atoms.{byte_be, number_back, byte_back, number_was}
use Rattle.laws.proofs.EachReads.{Was}
use Rattle.laws.proofs.Items.{both, in_item, sane_item, item_bytes_lem, item_back, pass_back, item_least_lem, items_least, ItemWas, ItemsWere, item_was, no_items, item_before, pass_was}
use Rattle.laws.proofs.Numbers.{length-be}

module _ (rules : Rules) (i : Item) (sane : T (sane_item i)) where
  pub counted_back : (k : Count) (cs : List (ItemContent i)) (pre post : List ℕ) → ItemsInRange i cs → leb (length cs) (most k) && items_able rules i cs ≡ true → read_counted rules k i (pre ++ ((be 2 (length cs) ++ items_bytes i cs) ++ post)) (length pre) ≡ got (record { start = length pre + 2; count = length cs }) (length pre + length (be 2 (length cs) ++ items_bytes i cs))
  unfolding read_counted read_count count_at
  counted_back k cs pre post r h =
      let able = both _ _ h in
      let n = length cs in
      let t = items_bytes i cs in
      let c = count_back k n (leb-true _ _ able.0) in
      let f = pre ++ (be 2 n ++ (t ++ post)) in
      let room : n * item_least i ≤ length f - (length pre + 2) = simp (length-append, length-be) (omega (arith, items_least i cs)) in
      let q : length (pre ++ be 2 n) ≡ length pre + 2 = simp (length-append, length-be) refl in
      let l : length pre + 2 + length t ≡ length pre + length (be 2 n ++ t) = simp (length-append, length-be) (omega arith) in
      let p = pass_back rules i sane cs (pre ++ be 2 n) post r able.1 in
      rw (append_assoc (be 2 n) t post, number_back 2 n pre (t ++ post) c.0, c.1, le-leb _ _ room, ← append_assoc pre (be 2 n) (t ++ post), ← q, p, q, l) refl

  -- ---- a list that ends in zero

  -- an item's first byte, where it is not zero
  first_byte : (g post : List ℕ) → 1 ≤ length g → zero_first g ≡ false → Bytes g → (pre : List ℕ) → (b : ℕ) × (read_number 1 (pre ++ (g ++ post)) (length pre) ≡ got b (length pre + 1)) × (eqb b 0 ≡ false)
  unfolding zero_first Bytes
  first_byte [] post l z h pre = absurd (omega arith)
  first_byte (b ∷ g) post l z h pre = (b, byte_back b pre (g ++ post) h.0, z)

  pub ended_from_back : (cs : List (ItemContent i)) (pre post : List ℕ) (turns n : ℕ) → ItemsInRange i cs → items_able rules i cs ≡ true → none_ends i cs ≡ true → length cs < turns → ended_from rules i turns (pre ++ ((items_bytes i cs ++ 0 ∷ []) ++ post)) (length pre) n ≡ got (n + length cs) (length pre + length (items_bytes i cs ++ 0 ∷ []))
  unfolding ended_from items_bytes ItemsInRange items_able none_ends
  ended_from_back cs pre post zero n r h z l = absurd (omega arith)
  ended_from_back [] pre post (suc turns) n r h z l =
      let m : n + 0 ≡ n = omega arith in
      rw (byte_back 0 pre post (omega arith), m) refl
  ended_from_back (c ∷ cs) pre post (suc turns) n r h z l =
      let b = item_bytes i c in
      let t = items_bytes i cs ++ 0 ∷ [] in
      let able = both _ _ h in
      let ends = both _ _ z in
      let some : 1 ≤ length b = omega (arith, item_least_lem i c, leb→le 1 (item_least i) (right_holds (every in_item i.atoms) (leb 1 (item_least i)) sane)) in
      let first = first_byte b (t ++ post) some (not-true _ ends.0) (item_bytes_lem i c r.0) pre in
      let q : length (pre ++ b) ≡ length pre + length b = length-append pre b in
      let ih = ended_from_back cs (pre ++ b) post turns (suc n) r.1 able.1 ends.1 (omega arith) in
      let e : length pre + length b + length t ≡ length pre + length (b ++ t) = simp length-append (omega arith) in
      let m : suc n + length cs ≡ n + suc (length cs) = omega arith in
      rw (append_assoc b (items_bytes i cs) (0 ∷ []), append_assoc b t post, first.1, first.2, item_back rules i sane c pre (t ++ post) r.0 able.0, ← append_assoc pre b (t ++ post), ← q, ih, q, e, m) refl

  pub ended_back : (cs : List (ItemContent i)) (pre post : List ℕ) → ItemsInRange i cs → items_able rules i cs && none_ends i cs ≡ true → read_ended rules i (pre ++ ((items_bytes i cs ++ 0 ∷ []) ++ post)) (length pre) ≡ got (record { start = length pre; count = length cs }) (length pre + length (items_bytes i cs ++ 0 ∷ []))
  unfolding read_ended
  ended_back cs pre post r h =
      let able = both (items_able rules i cs) (none_ends i cs) h in
      let f = pre ++ ((items_bytes i cs ++ 0 ∷ []) ++ post) in
      let one = leb→le 1 (item_least i) (right_holds (every in_item i.atoms) (leb 1 (item_least i)) sane) in
      let l : length cs < length f = simp length-append (omega (arith, items_least i cs, mul-le-mul_left (length cs) one)) in
      let m : 0 + length cs ≡ length cs = omega arith in
      rw (ended_from_back cs pre post (length f) 0 r able.0 able.1 l, m) refl

-- ---- what was read is a list

-- a count that was read can be written, and is its bytes
was_by : (k : Count) (bits n : ℕ) → bits < 256 ^ 2 → count_of k bits ≡ pos n → (few : Bool) → leb bits (most k) ≡ few → (n ≡ bits) × (n ≤ most k)
was_by k bits n h e true t =
    let few = leb-true bits (most k) t in
    let back : count_of k bits ≡ pos bits = (count_back k bits few).1 in
    let same : bits ≡ n = cc in
    (sym same, omega (arith, few))
was_by k bits n h e false t = absurd (negsuc-pos (sym (count_above k bits h (leb-false _ _ t)).1 ∙ e))

pub count_was : (k : Count) (bits n : ℕ) → bits < 256 ^ 2 → count_of k bits ≡ pos n → (n ≡ bits) × (n ≤ most k)
count_was k bits n h e = was_by k bits n h e (leb bits (most k)) refl

abbrev pub FieldWas : Rules → (x : Field) → List ℕ → ℕ → Slot x → ℕ → Type 0
FieldWas rules x f p v q = Was bytes slot (read rules) InRange (able rules) x f p v q

module _ (rules : Rules) (i : Item) (sane : T (sane_item i)) (f : List ℕ) (b : Bytes f) (p : ℕ) where
  counted_pass : (k : Count) (l : ListSlot) (a : ℕ) → Counted k (item_least i) f p l a → (r : Read (Unit {0})) → pass_items rules i l.count f a ≡ r → (v : ListSlot) (q : ℕ) → and_then r (λ _ e. got l e) ≡ got v q → FieldWas rules (counted k i) f p v q
  unfolding bytes slot InRange able
  counted_pass k l a c (bad x y) r v q e = absurd (zero_one cc)
  counted_pass k l a c (got tt x) r v q e =
      let ev : l ≡ v = cc in
      let ex : x ≡ q = cc in
      let h = number_was 2 f p c.bits a b c.number in
      let n = count_was k c.bits l.count h.below c.count in
      let t = pass_was rules i sane f b l.count a q c.fits (r ∙ ap (got tt) ex) in
      let g = items_bytes i t.contents in
      let many : length t.contents ≡ c.bits = t.many ∙ n.0 in
      let size : length (be 2 (length t.contents) ++ g) ≡ 2 + length g = simp (length-append, length-be) refl in
      let start : l.start ≡ p + 2 = c.start ∙ h.next in
      record {
        content = t.contents;
        in_range = t.in_range;
        writable = rw (t.many, le-leb _ _ n.1) t.writable;
        is = sym ev ∙ (λ j. record { start = start j; count = sym t.many j });
        split = h.split ∙ rw (t.split, append_assoc (be 2 (length t.contents)) g (drop q f), many) refl;
        next = omega (arith, h.next, t.next, size);
        within = t.within;
      }

  counted_by : (k : Count) (r : Read ListSlot) → read_count k (item_least i) f p ≡ r → (v : ListSlot) (q : ℕ) → and_then r (λ l a. and_then (pass_items rules i l.count f a) (λ _ e. got l e)) ≡ got v q → FieldWas rules (counted k i) f p v q
  counted_by k (bad x y) r v q e = absurd (zero_one cc)
  counted_by k (got l a) r v q e = counted_pass k l a (counted_is k (item_least i) f p a l r) (pass_items rules i l.count f a) refl v q e

  pub counted_was : (k : Count) (v : ListSlot) (q : ℕ) → read_counted rules k i f p ≡ got v q → FieldWas rules (counted k i) f p v q
  unfolding read_counted
  counted_was k v q e = counted_by k (read_count k (item_least i) f p) refl v q e

-- an item that begins with a byte which is not zero does not end the list
pub not_ending : (g t u : List ℕ) (b : ℕ) → 1 ≤ length g → g ++ t ≡ b ∷ u → eqb b 0 ≡ false → zero_first g ≡ false
unfolding zero_first
not_ending [] t u b l e h = absurd (omega arith)
not_ending (x ∷ g) t u b l e h = let q : x ≡ b = cc in rw q h

-- items of which none begins with zero, and a zero byte, stand from p to q
pub record EndedWere (rules : Rules) (i : Item) (f : List ℕ) (n p q : ℕ) : Type 0 where
  pub items : ItemsWere rules i f n p q
  pub none : none_ends i items.contents ≡ true

module _ (rules : Rules) (i : Item) (sane : T (sane_item i)) (f : List ℕ) (b : Bytes f) where
  pub ended_none : (p : ℕ) → p ≤ length f → EndedWere rules i f 0 p p
  unfolding none_ends no_items
  ended_none p l = record { items = no_items rules i sane f b p l; none = refl }

  -- an item whose first byte x is not zero, before others
  pub ended_item : {n p a q x y : ℕ} {v : Each AtomSlot i.atoms} → ItemWas rules i f p v a → read_number 1 f p ≡ got x y → eqb x 0 ≡ false → EndedWere rules i f n a q → EndedWere rules i f (suc n) p q
  unfolding none_ends item_bytes item_before
  ended_item {n} {p} {a} {q} {x} {y} h r z t =
      let first = number_was 1 f p x y b r in
      let one = leb→le 1 (item_least i) (right_holds (every in_item i.atoms) (leb 1 (item_least i)) sane) in
      let some : 1 ≤ length (item_bytes i h.content) = omega (arith, item_least_lem i h.content) in
      let front : item_bytes i h.content ++ drop a f ≡ x ∷ drop y f = sym h.split ∙ first.split ∙ ap (λ (bs : List ℕ). bs ++ drop y f) (sym (byte_be x first.below)) in
      let other = not_ending (item_bytes i h.content) (drop a f) (drop y f) x some front z in
      record { items = item_before rules i sane f b h t.items; none = rw other t.none }

  record EndsAt (n p m q : ℕ) : Type 0 where
    many : ℕ
    end : ℕ
    were : EndedWere rules i f many p end
    total : m ≡ n + many
    zero : drop end f ≡ 0 ∷ drop q f
    next : q ≡ end + 1
    within : q ≤ length f

  ends_zero : (n p m q x y : ℕ) → read_number 1 f p ≡ got x y → eqb x 0 ≡ true → got n y ≡ got m q → EndsAt n p m q
  ends_zero n p m q x y r z e =
      let h = number_was 1 f p x y b r in
      let em : n ≡ m = cc in
      let eq : y ≡ q = cc in
      let l : p ≤ length f = omega (arith, h.next, h.within) in
      record { many = 0; end = p; were = ended_none p l; total = omega arith; zero = h.split ∙ rw (eqb-true x 0 z, eq) (ap (λ (bs : List ℕ). bs ++ drop q f) (sym (byte_be 0 (omega arith)))); next = sym eq ∙ h.next; within = rw (← eq) h.within }

  ends_item : (turns n p m q x y : ℕ) → read_number 1 f p ≡ got x y → eqb x 0 ≡ false → p ≤ length f → (r : Read (Each AtomSlot i.atoms)) → read_item rules i f p ≡ r → ((a : ℕ) → a ≤ length f → ended_from rules i turns f a (suc n) ≡ got m q → EndsAt (suc n) a m q) → and_then r (λ s a. ended_from rules i turns f a (suc n)) ≡ got m q → EndsAt n p m q
  ends_item turns n p m q x y r z l (bad k c) s ih e = absurd (zero_one cc)
  ends_item turns n p m q x y r z l (got v a) s ih e =
      let h = item_was rules i sane f b p a v l s in
      let t = ih a h.within e in
      record { many = suc t.many; end = t.end; were = ended_item h r z t.were; total = omega (arith, t.total); zero = t.zero; next = t.next; within = t.within }

  ends_test : (turns n p m q x y : ℕ) → read_number 1 f p ≡ got x y → p ≤ length f → ((a : ℕ) → a ≤ length f → ended_from rules i turns f a (suc n) ≡ got m q → EndsAt (suc n) a m q) → (t : Bool) → eqb x 0 ≡ t → cond t (got n y) (and_then (read_item rules i f p) (λ s a. ended_from rules i turns f a (suc n))) ≡ got m q → EndsAt n p m q
  ends_test turns n p m q x y r l ih true t e = ends_zero n p m q x y r t e
  ends_test turns n p m q x y r l ih false t e = ends_item turns n p m q x y r t l (read_item rules i f p) refl ih e

  ends_by : (turns n p m q : ℕ) → p ≤ length f → ((a : ℕ) → a ≤ length f → ended_from rules i turns f a (suc n) ≡ got m q → EndsAt (suc n) a m q) → (r : Read ℕ) → read_number 1 f p ≡ r → and_then r (λ x y. cond (eqb x 0) (got n y) (and_then (read_item rules i f p) (λ s a. ended_from rules i turns f a (suc n)))) ≡ got m q → EndsAt n p m q
  ends_by turns n p m q l ih (bad k c) r e = absurd (zero_one cc)
  ends_by turns n p m q l ih (got x y) r e = ends_test turns n p m q x y r l ih (eqb x 0) refl e

  ends_were : (turns n p m q : ℕ) → p ≤ length f → ended_from rules i turns f p n ≡ got m q → EndsAt n p m q
  unfolding ended_from
  ends_were zero n p m q l e = absurd (zero_one cc)
  ends_were (suc turns) n p m q l e = ends_by turns n p m q l (λ a k r. ends_were turns (suc n) a m q k r) (read_number 1 f p) refl e

  ended_by : (p : ℕ) → p ≤ length f → (r : Read ℕ) → ended_from rules i (length f) f p 0 ≡ r → (v : ListSlot) (q : ℕ) → and_then r (λ n e. got (record { start = p; count = n }) e) ≡ got v q → FieldWas rules (ended i) f p v q
  unfolding bytes slot InRange able
  ended_by p l (bad k c) r v q e = absurd (zero_one cc)
  ended_by p l (got m x) r v q e =
      let ev : ◌≡◌ {A = ListSlot} (record { start = p; count = m }) v = cc in
      let ex : x ≡ q = cc in
      let t = ends_were (length f) 0 p m q l (r ∙ ap (got m) ex) in
      let w = t.were.items in
      let g = items_bytes i w.contents in
      let size : length (g ++ 0 ∷ []) ≡ length g + 1 = length-append g (0 ∷ []) in
      let many : m ≡ length w.contents = omega (arith, t.total, w.many) in
      record {
        content = w.contents;
        in_range = w.in_range;
        writable = rw w.writable t.were.none;
        is = sym ev ∙ ap (λ (n : ℕ). record { start = p; count = n }) many;
        split = w.split ∙ rw (t.zero, append_assoc g (0 ∷ []) (drop q f)) refl;
        next = omega (arith, t.next, w.next, size);
        within = t.within;
      }

  pub ended_was : (p : ℕ) → p ≤ length f → (v : ListSlot) (q : ℕ) → read_ended rules i f p ≡ got v q → FieldWas rules (ended i) f p v q
  unfolding read_ended
  ended_was p l v q e = ended_by p l (ended_from rules i (length f) f p 0) refl v q e
