-- A list that ends in a zero byte, one item at a time. The definition's turns are as many as the frame has bytes, and more change nothing.
use Prim.Native.Nat.{ℕ, zero, suc, ◌+◌, ◌≤◌, ◌<◌}
use mathlib.Core.Bool.{cond}
use mathlib.Core.List.{List}
use mathlib.Core.Option.{Option, some, none}
use mathlib.Core.Path.{◌≡◌, refl, ap, sym, ◌∙◌}
use native.Mathlib.Omega.{arith}
use borrow.Author.Tests.{eq-eqb, ne_eqb, lt-leb}
use lib.Dec.{eqb}
use lib.ListN.{length, drop}
use Rattle.protocol.specs.declared.Rules.{Rules}
use Rattle.protocol.specs.declared.Span.{Span}
use Rattle.protocol.specs.Each.{Each}
use Rattle.protocol.specs.Fields.{AtomSlot, Item}
use Rattle.protocol.specs.Kinds.{error_field, pair}
use Rattle.protocol.specs.Reading.{Read, got, bad, and_then, read_number, text_at, read_text, zero_in, read_item, pass_items, ended_from}
use Rattle.protocol.specs.Refusals.{cut}
use Rattle.protocol.proofs.Basics.{bad-got}
use Rattle.protocol.proofs.Numbers.{whole}

-- an item that is read takes at least a byte
abbrev pub Grows : Rules → Item → List ℕ → Type 0
Grows rules i f = (p e : ℕ) (s : Each AtomSlot i.atoms) → read_item rules i f p ≡ got s e → p < e

module _ (rules : Rules) (i : Item) (f : List ℕ) where
  -- nothing is left
  over : (turns p n : ℕ) → length f ≤ p → ended_from rules i turns f p n ≡ bad cut p
  unfolding ended_from read_number
  over zero p n h = refl
  over (suc turns) p n h = rw (lt-leb (p + 1) (length f) (omega arith)) refl

  module _ (grows : Grows rules i f) where
    enough : (k l p n : ℕ) → length f ≤ k + p → length f ≤ l + p → ended_from rules i k f p n ≡ ended_from rules i l f p n
    unfolding ended_from
    enough zero l p n h m = sym (over l p n (omega arith))
    enough (suc k) zero p n h m = over (suc k) p n (omega arith)
    enough (suc k) (suc l) p n h m = number (read_number 1 f p) (λ e s r. enough k l e (suc n) (omega (arith, grows p e s r)) (omega (arith, grows p e s r)))
      where
        item : (r : Read (Each AtomSlot i.atoms)) → read_item rules i f p ≡ r → ((e : ℕ) (s : Each AtomSlot i.atoms) → read_item rules i f p ≡ got s e → ended_from rules i k f e (suc n) ≡ ended_from rules i l f e (suc n)) → and_then r (λ s e. ended_from rules i k f e (suc n)) ≡ and_then r (λ s e. ended_from rules i l f e (suc n))
        item (got s e) r ih = ih e s r
        item (bad c b) r ih = refl

        number : (r : Read ℕ) → ((e : ℕ) (s : Each AtomSlot i.atoms) → read_item rules i f p ≡ got s e → ended_from rules i k f e (suc n) ≡ ended_from rules i l f e (suc n)) → and_then r (λ b q. cond (eqb b 0) (got n q) (and_then (read_item rules i f p) (λ s e. ended_from rules i k f e (suc n)))) ≡ and_then r (λ b q. cond (eqb b 0) (got n q) (and_then (read_item rules i f p) (λ s e. ended_from rules i l f e (suc n))))
        number (got b q) ih = ap (cond (eqb b 0) (got n q)) (item (read_item rules i f p) refl ih)
        number (bad c b) ih = refl

    -- the turn at p, with as many turns left as there are bytes
    module _ (p n : ℕ) where
      pub ended_cut : length f < p + 1 → bad cut p ≡ ended_from rules i (length f) f p n
      ended_cut h = sym (over (length f) p n (omega arith))

      module _ (b q : ℕ) (e : got b q ≡ read_number 1 f p) where
        turn : ended_from rules i (length f) f p n ≡ ended_from rules i (suc (length f)) f p n
        turn = enough (length f) (suc (length f)) p n (omega arith) (omega arith)

        pub ended_zero : b ≡ 0 → got n q ≡ ended_from rules i (length f) f p n
        unfolding ended_from
        ended_zero h = sym (turn ∙ rw (← e, eq-eqb b 0 h) refl)

        pub ended_bad : (b ≡ 0 → ⊥) → (k x : ℕ) → bad k x ≡ pass_items rules i 1 f p → bad k x ≡ ended_from rules i (length f) f p n
        unfolding ended_from pass_items
        ended_bad h k x r = sym (turn ∙ rw (← e, ne_eqb b 0 h) (by (read_item rules i f p) r))
          where
            by : (m : Read (Each AtomSlot i.atoms)) → bad k x ≡ and_then m (λ s q. pass_items rules i 0 f q) → and_then m (λ s e. ended_from rules i (length f) f e (suc n)) ≡ bad k x
            by (got s q) r = absurd (bad-got r)
            by (bad c y) r =
                let number : k ≡ c = cc in
                let place : x ≡ y = cc in
                rw (number, place) refl

        pub ended_more : (b ≡ 0 → ⊥) → (x : ℕ) → got tt x ≡ pass_items rules i 1 f p → ended_from rules i (length f) f x (suc n) ≡ ended_from rules i (length f) f p n
        unfolding ended_from pass_items
        ended_more h x r = sym (turn ∙ rw (← e, ne_eqb b 0 h) (by (read_item rules i f p) r))
          where
            by : (m : Read (Each AtomSlot i.atoms)) → got tt x ≡ and_then m (λ s q. pass_items rules i 0 f q) → and_then m (λ s e. ended_from rules i (length f) f e (suc n)) ≡ ended_from rules i (length f) f x (suc n)
            by (got s q) r = let same : x ≡ q = cc in rw same refl
            by (bad c y) r = absurd (bad-got (sym r))

    -- past an item is further on
    pub passed_grows : (p x : ℕ) → got tt x ≡ pass_items rules i 1 f p → p < x
    unfolding pass_items
    passed_grows p x r = by (read_item rules i f p) refl r
      where
        by : (m : Read (Each AtomSlot i.atoms)) → read_item rules i f p ≡ m → got tt x ≡ and_then m (λ s q. pass_items rules i 0 f q) → p < x
        by (got s q) e r = let same : x ≡ q = cc in rw same (grows p q s e)
        by (bad c y) e r = absurd (bad-got (sym r))

-- a string takes at least its zero byte
text_by : (z : Option ℕ) (p e : ℕ) (s : Span) → text_at p z ≡ got s e → p < e
unfolding text_at
text_by none p e s r = absurd (bad-got r)
text_by (some n) p e s r = let q : p + n + 1 ≡ e = cc in omega arith

text_grows : (f : List ℕ) (p e : ℕ) (s : Span) → read_text f p ≡ got s e → p < e
unfolding read_text
text_grows f p e s r = text_by (zero_in (drop p f)) p e s r

-- an error's field is a byte and a string
pub error_grows : (rules : Rules) (f : List ℕ) → Grows rules error_field f
error_grows rules f p e s r = number (read_number 1 f p) refl r
  where
    string : (b q : ℕ) → read_number 1 f p ≡ got b q → (t : Read Span) → read_text f q ≡ t → and_then (and_then t (λ s q. got (s, tt) q)) (λ ss e. got (b, ss) e) ≡ got s e → p < e
    string b q m (got t x) h r =
        let w = whole 1 f p b q m in
        let l = text_grows f q x t h in
        let z : x ≡ e = cc in
        omega (arith, w.next)
    string b q m (bad k x) h r = absurd (bad-got r)

    number : (m : Read ℕ) → read_number 1 f p ≡ m → and_then m (λ b q. and_then (and_then (read_text f q) (λ s q. got (s, tt) q)) (λ ss e. got (b, ss) e)) ≡ got s e → p < e
    number (got b q) m r = string b q m (read_text f q) refl r
    number (bad k x) m r = absurd (bad-got r)

-- a start-up argument is two strings
pub pair_grows : (rules : Rules) (f : List ℕ) → Grows rules pair f
pair_grows rules f p e s r = name (read_text f p) refl r
  where
    value : (n : Span) (q : ℕ) → read_text f p ≡ got n q → (t : Read Span) → read_text f q ≡ t → and_then (and_then t (λ s q. got (s, tt) q)) (λ ss e. got (n, ss) e) ≡ got s e → p < e
    value n q m (got t x) h r =
        let z : x ≡ e = cc in
        omega (arith, text_grows f p q n m, text_grows f q x t h)
    value n q m (bad k x) h r = absurd (bad-got r)

    name : (m : Read Span) → read_text f p ≡ m → and_then m (λ n q. and_then (and_then (read_text f q) (λ s q. got (s, tt) q)) (λ ss e. got (n, ss) e)) ≡ got s e → p < e
    name (got n q) m r = value n q m (read_text f q) refl r
    name (bad k x) m r = absurd (bad-got r)
