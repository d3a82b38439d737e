-- Counts by their two readings, a count that was read, and lists of items that all have one size.
use Prim.Native.Nat.{ℕ, zero, suc, ◌+◌, ◌-◌, ◌*◌, ◌≤◌, ◌<◌, ◌^◌}
use mathlib.Core.List.{List}
use mathlib.Core.Path.{◌≡◌, refl, ap, ◌∙◌, sym}
use native.Mathlib.Omega.{arith}
use borrow.Author.Tests.{leb-true}
use lib.Dec.{leb}
use lib.IntN.{ℤ, pos, negsuc}
use lib.ListN.{length}
use Rattle.protocol.specs.declared.Count.TheVariants as C
use Rattle.protocol.specs.declared.List.{List as ListSlot}
use Rattle.protocol.specs.declared.Rules.{Rules}
use Rattle.protocol.specs.Each.{Each}
use Rattle.protocol.specs.Fields.{AtomSlot, Item, Count, count_of, most}
use Rattle.protocol.specs.Reading.{Read, got, bad, and_then, read_number, read_item, pass_items, count_at, read_count}
use Rattle.protocol.proofs.Basics.{bad-got, first_chosen}
use Rattle.protocol.proofs.Numbers.{lower, upper, whole}

-- a count that can be written has two bytes and is read as it is
pub count_back : (k : Count) (n : ℕ) → n ≤ most k → (n < 256 ^ 2) × (count_of k n ≡ pos n)
count_back C.Signed n h = (omega arith, lower 2 n (omega arith))
count_back C.Unsigned n h = (omega arith, refl)

-- two bytes that are more are negative
pub count_above : (k : Count) (n : ℕ) → n < 256 ^ 2 → most k < n → (m : ℕ) × (count_of k n ≡ negsuc m)
count_above C.Signed n w h = (_, upper 2 n (omega arith))
count_above C.Unsigned n w h = absurd (omega arith)

-- the list starts where the count ends, and that many of its smallest elements fit into what is left
pub record Counted (k : Count) (least : ℕ) (f : List ℕ) (p : ℕ) (l : ListSlot) (q : ℕ) : Type 0 where
  pub bits : ℕ
  pub number : read_number 2 f p ≡ got bits q
  pub count : count_of k bits ≡ pos l.count
  pub start : l.start ≡ q
  pub fits : q ≤ length f
  pub room : l.count * least ≤ length f - q

sign_by : (k : Count) (least : ℕ) (f : List ℕ) (p m q q' : ℕ) (l : ListSlot) (z : ℤ) → read_number 2 f p ≡ got m q → count_of k m ≡ z → count_at least z f p q ≡ got l q' → Counted k least f p l q'
unfolding count_at
sign_by k least f p m q q' l (pos n) r s e =
    let c = first_chosen (leb (n * least) (length f - q)) bad-got e in
    let g = c.1 in
    let el : ◌≡◌ {A = ListSlot} (record { start = q; count = n }) l = cc in
    let eq : q ≡ q' = cc in
    let en : n ≡ l.count = ap (λ (l : ListSlot). l.count) el in
    let es : q ≡ l.start = ap (λ (l : ListSlot). l.start) el in
    record {
      bits = m;
      number = rw (← eq) r;
      count = s ∙ ap pos en;
      start = sym es ∙ eq;
      fits = rw (← eq) (whole 2 f p m q r).fits;
      room = rw (← eq, ← en) (leb-true _ _ c.0);
    }
sign_by k least f p m q q' l (negsuc n) r s e = absurd (bad-got e)

count_by : (k : Count) (least : ℕ) (f : List ℕ) (p q' : ℕ) (l : ListSlot) (r : Read ℕ) → read_number 2 f p ≡ r → and_then r (λ n q. count_at least (count_of k n) f p q) ≡ got l q' → Counted k least f p l q'
count_by k least f p q' l (got m q) r e = sign_by k least f p m q q' l (count_of k m) r refl e
count_by k least f p q' l (bad c b) r e = absurd (bad-got e)

pub counted_is : (k : Count) (least : ℕ) (f : List ℕ) (p q : ℕ) (l : ListSlot) → read_count k least f p ≡ got l q → Counted k least f p l q
unfolding read_count
counted_is k least f p q l e = count_by k least f p q l (read_number 2 f p) refl e

-- an item that always has w bytes, where w bytes are left
abbrev pub Steady : Rules → Item → ℕ → List ℕ → Type 0
Steady rules i w f = (p : ℕ) → p + w ≤ length f → (s : Each AtomSlot i.atoms) × (read_item rules i f p ≡ got s (p + w))

pub pass_steady : (rules : Rules) (i : Item) (w : ℕ) (f : List ℕ) → Steady rules i w f → (n p : ℕ) → p + n * w ≤ length f → pass_items rules i n f p ≡ got tt (p + n * w)
unfolding pass_items
pass_steady rules i w f st zero p h = ap (got tt) (omega arith)
pass_steady rules i w f st (suc n) p h =
    let l : p + w + n * w ≤ length f = omega arith in
    rw (st p (omega arith)).1 (pass_steady rules i w f st n (p + w) l ∙ ap (got tt) (omega arith))

-- ---- the items that are left, one after the other

module _ (rules : Rules) (i : Item) (f : List ℕ) (p : ℕ) where
  pass_by : (n : ℕ) (r : Read (Each AtomSlot i.atoms)) → and_then r (λ s q. pass_items rules i n f q) ≡ and_then (and_then r (λ s q. pass_items rules i 0 f q)) (λ _ q. pass_items rules i n f q)
  unfolding pass_items
  pass_by n (got s q) = refl
  pass_by n (bad k b) = refl

  pass_one : (n : ℕ) → pass_items rules i (suc n) f p ≡ and_then (pass_items rules i 1 f p) (λ _ q. pass_items rules i n f q)
  unfolding pass_items
  pass_one n = pass_by n (read_item rules i f p)

  pub pass_none : (left : ℕ) → left ≤ 0 → got tt p ≡ pass_items rules i left f p
  unfolding pass_items
  pass_none zero h = refl
  pass_none (suc left) h = absurd (omega arith)

  pub pass_refused : (left : ℕ) → 0 < left → (k b : ℕ) → bad k b ≡ pass_items rules i 1 f p → bad k b ≡ pass_items rules i left f p
  pass_refused zero h k b e = absurd (omega arith)
  pass_refused (suc left) h k b e = rw (pass_one left, ← e) refl

  pub pass_turn : (left : ℕ) → 0 < left → (q : ℕ) → got tt q ≡ pass_items rules i 1 f p → pass_items rules i (left - 1) f q ≡ pass_items rules i left f p
  pass_turn zero h q e = absurd (omega arith)
  pass_turn (suc left) h q e =
      let l : suc left - 1 ≡ left = omega arith in
      rw (l, pass_one left, ← e) refl
