-- What was refused has the fault that docs/FORMAT.md 5 names, after right contents: for atoms, items, lists and fields.
use Prim.Native.Nat.{ℕ, zero, suc, ◌+◌, ◌-◌, ◌*◌, ◌≤◌, ◌<◌}
use mathlib.Core.Bool.{Bool, true, false, cond, not, ◌&&◌}
use mathlib.Core.List.{List, [], ◌∷◌}
use mathlib.Core.Logic.{◌⊎◌, inl, inr}
use mathlib.Core.Option.{Option, some, none}
use mathlib.Core.Path.{◌≡◌, refl, ap, sym, ◌∙◌}
use native.Mathlib.Omega.{arith}
use borrow.Author.Tests.{leb-false, eqb-false}
use lib.Dec.{T, leb, leb→le, eqb}
use lib.IntN.{ℤ, pos, negsuc}
use lib.ListN.{length, drop, length-drop, drop_of_length-le}
use lib.Seq.{drop-drop}
use Rattle.protocol.specs.declared.List.{List as ListSlot}
use Rattle.protocol.specs.declared.Rules.{Rules}
use Rattle.protocol.specs.declared.Span.{Span}
use Rattle.protocol.specs.Bytes.{Bytes, no_zero, is_one_of, number_at, signed_of}
use Rattle.protocol.specs.Each.{Each}
use Rattle.protocol.specs.Fields.{Atom, unsigned, signed, one_of, text, value, rest, AtomSlot, atom_bytes, Item, item_bytes, item_least, items_bytes, Count, count_of, Field, one, counted, ended}
use Rattle.protocol.specs.Reading.{Read, got, bad, and_then, read_number, one_more, zero_in, text_at, read_text, value_at, read_value, read_atom, read_each, read_item, pass_items, count_at, read_count, read_counted, ended_from, read_ended, read}
use Rattle.protocol.specs.Refusals.{bad_count, cut, not_allowed}
use Rattle.protocol.proofs.Basics.{zero_one, left_holds, right_holds}
use Rattle.protocol.proofs.Counts.{Counted, counted_is}
use Rattle.protocol.proofs.Find.{every}
use Rattle.protocol.proofs.Numbers.{whole}
use Rattle.laws.specs.Faults.{Short, NotOneOf, Unended, BelowNull, LongValue, AtomFault, AtomBefore, AtomsFault, here, later, ItemsBefore, CountFault, ItemFault, FieldFault}
use Rattle.laws.proofs.Atoms.{AtomWas, atom_was}
use Rattle.laws.proofs.Bodies.{sane_field}
use Rattle.laws.proofs.Items.{in_item, in_item_sane, in_item_last, sane_item, item_least_lem, item_was, ItemsWere, no_items, item_before}
use Rattle.laws.proofs.Lists.{EndedWere, ended_none, ended_item}

-- where no zero byte is found there is none
none_by : (b : ℕ) (g : List ℕ) (t : Bool) → eqb b 0 ≡ t → (zero_in g ≡ none → no_zero g ≡ true) → cond t (some 0) (one_more (zero_in g)) ≡ none → not t && no_zero g ≡ true
unfolding one_more
none_by b g true t ih e = absurd (zero_one cc)
none_by b g false t ih e = ih (none_of (zero_in g) e)
  where
    none_of : (z : Option ℕ) → one_more z ≡ none → z ≡ none
    none_of none e = refl
    none_of (some n) e = absurd (zero_one cc)

no_zero_lem : (g : List ℕ) → zero_in g ≡ none → no_zero g ≡ true
unfolding zero_in no_zero
no_zero_lem [] e = refl
no_zero_lem (b ∷ g) e = none_by b g (eqb b 0) refl (no_zero_lem g) e

-- a refusal is handed on as it is, whatever was to be read
pub handed : {X Y : Type 0} {k x number place : ℕ} → ◌≡◌ {A = Read X} (bad k x) (bad number place) → ◌≡◌ {A = Read Y} (bad k x) (bad number place)
handed {k = k} {x = x} {number = number} {place = place} e =
    let en : k ≡ number = cc in
    let ep : x ≡ place = cc in
    rw (en, ep) refl

-- a fault at a place, `at` bytes after p
abbrev At : (ℕ → Type 0) → ℕ → ℕ → Type 0
At Fault p place = (at : ℕ) × Fault at × (place ≡ p + at)

module _ (rules : Rules) (f : List ℕ) (b : Bytes f) where
  -- ---- atoms

  module _ (p : ℕ) (l : p ≤ length f) where
    cut_by : (w : ℕ) (t : Bool) → leb (p + w) (length f) ≡ t → (number place : ℕ) → cond t (got (number_at w f p) (p + w)) (bad cut p) ≡ bad number place → Short w (drop p f) number × (place ≡ p)
    cut_by w true t number place e = absurd (zero_one cc)
    cut_by w false t number place e =
        let en : cut ≡ number = cc in
        let ep : p ≡ place = cc in
        let m : length f < p + w = leb-false _ _ t in
        ((sym en, simp length-drop (omega arith)), sym ep)

    number_fault : (w number place : ℕ) → read_number w f p ≡ bad number place → Short w (drop p f) number × (place ≡ p)
    unfolding read_number
    number_fault w number place e = cut_by w (leb (p + w) (length f)) refl number place e

    -- a number that is there
    there : (w n q : ℕ) → read_number w f p ≡ got n q → (w ≤ length (drop p f)) × (n ≡ number_at w (drop p f) 0)
    unfolding number_at
    there w n q r = let h = whole w f p n q r in (simp length-drop (omega (arith, h.next, h.fits)), h.is)

    signed_fault : (w number place : ℕ) (r : Read ℕ) → read_number w f p ≡ r → and_then r (λ n q. got (signed_of w n) q) ≡ bad number place → Short w (drop p f) number × (place ≡ p)
    signed_fault w number place (got n q) r e = absurd (zero_one cc)
    signed_fault w number place (bad k x) r e = number_fault w number place (r ∙ handed e)

    -- one of some bytes
    one_of_test : (bs : List ℕ) (n q : ℕ) (t : Bool) → is_one_of n bs ≡ t → read_number 1 f p ≡ got n q → (number place : ℕ) → cond t (got n q) (bad not_allowed p) ≡ bad number place → NotOneOf bs (drop p f) number × (place ≡ p)
    one_of_test bs n q true t r number place e = absurd (zero_one cc)
    one_of_test bs n q false t r number place e =
        let en : not_allowed ≡ number = cc in
        let ep : p ≡ place = cc in
        let h = there 1 n q r in
        ((sym en, h.0, rw (← h.1) t), sym ep)

    one_of_fault : (bs : List ℕ) (r : Read ℕ) → read_number 1 f p ≡ r → (number place : ℕ) → and_then r (λ n q. cond (is_one_of n bs) (got n q) (bad not_allowed p)) ≡ bad number place → (Short 1 (drop p f) number ⊎ NotOneOf bs (drop p f) number) × (place ≡ p)
    one_of_fault bs (bad k x) r number place e = let h = number_fault 1 number place (r ∙ handed e) in (inl h.0, h.1)
    one_of_fault bs (got n q) r number place e = let h = one_of_test bs n q (is_one_of n bs) refl r number place e in (inr h.0, h.1)

    -- a string
    text_fault : (z : Option ℕ) → zero_in (drop p f) ≡ z → (number place : ℕ) → text_at p z ≡ bad number place → Unended (drop p f) number × (place ≡ p)
    unfolding text_at
    text_fault none z number place e =
        let en : cut ≡ number = cc in
        let ep : p ≡ place = cc in
        ((sym en, no_zero_lem (drop p f) z), sym ep)
    text_fault (some n) z number place e = absurd (zero_one cc)

    -- a value
    abbrev ValueFault : ℕ → Type 0
    ValueFault number = Short 4 (drop p f) number ⊎ (BelowNull (drop p f) number ⊎ LongValue (drop p f) number)

    long_fault : (n m q : ℕ) → read_number 4 f p ≡ got m q → signed_of 4 m ≡ pos n → (t : Bool) → leb (q + n) (length f) ≡ t → (number place : ℕ) → cond {A = Read (Option Span)} t (got (some (record { start = q; len = n })) (q + n)) (bad cut p) ≡ bad number place → LongValue (drop p f) number × (place ≡ p)
    long_fault n m q r s true t number place e = absurd (zero_one cc)
    long_fault n m q r s false t number place e =
        let en : cut ≡ number = cc in
        let ep : p ≡ place = cc in
        let h = there 4 m q r in
        let next : q ≡ p + 4 = (whole 4 f p m q r).next in
        let m : length f < q + n = leb-false _ _ t in
        ((sym en, h.0, (n, rw (← h.1) s, simp length-drop (omega arith))), sym ep)

    value_sign : (m q : ℕ) → read_number 4 f p ≡ got m q → (z : ℤ) → signed_of 4 m ≡ z → (number place : ℕ) → value_at z f p q ≡ bad number place → ValueFault number × (place ≡ p)
    unfolding value_at
    value_sign m q r (pos n) s number place e = let h = long_fault n m q r s (leb (q + n) (length f)) refl number place e in (inr (inr h.0), h.1)
    value_sign m q r (negsuc zero) s number place e = absurd (zero_one cc)
    value_sign m q r (negsuc (suc n)) s number place e =
        let en : not_allowed ≡ number = cc in
        let ep : p ≡ place = cc in
        let h = there 4 m q r in
        (inr (inl (sym en, h.0, (n, rw (← h.1) s))), sym ep)

    value_fault : (r : Read ℕ) → read_number 4 f p ≡ r → (number place : ℕ) → and_then (and_then r (λ n q. got (signed_of 4 n) q)) (λ z q. value_at z f p q) ≡ bad number place → ValueFault number × (place ≡ p)
    value_fault (bad k x) r number place e = let h = number_fault 4 number place (r ∙ handed e) in (inl h.0, h.1)
    value_fault (got m q) r number place e = value_sign m q r (signed_of 4 m) refl number place e

    pub atom_fault : (a : Atom) (number place : ℕ) → read_atom rules a f p ≡ bad number place → AtomFault a (drop p f) number × (place ≡ p)
    unfolding AtomFault read_text read_value
    atom_fault (unsigned w) number place e = number_fault w number place e
    atom_fault (signed w) number place e = signed_fault w number place (read_number w f p) refl e
    atom_fault (one_of bs) number place e = one_of_fault bs (read_number 1 f p) refl number place e
    atom_fault text number place e = text_fault (zero_in (drop p f)) refl number place e
    atom_fault value number place e = value_fault (read_number 4 f p) refl number place e
    atom_fault rest number place e = absurd (zero_one cc)

  -- ---- items

  -- atoms one after the other
  AtomsRefused : List Atom → ℕ → ℕ → ℕ → Type 0
  AtomsRefused xs p number place = (at : ℕ) × AtomsFault rules xs (drop p f) number at × (place ≡ p + at)

  later_by : (a : Atom) → T (in_item a) → (xs : List Atom) (p q : ℕ) (v : AtomSlot a) (number place : ℕ) → AtomWas rules a f p v q → AtomsRefused xs q number place → AtomsRefused (a ∷ xs) p number place
  unfolding AtomsRefused
  later_by a t xs p q v number place w h =
      let n = length (atom_bytes a w.content) in
      let before : AtomBefore rules a (drop p f) (drop q f) n = record { content = w.content; in_range = w.in_range; writable = w.writable; split = w.split; last = in_item_last a (drop q f) t; place = refl } in
      (n + h.0, later before h.1, omega (arith, w.next, h.2))

  rest_fault : (a : Atom) → T (in_item a) → (xs : List Atom) (p q : ℕ) (v : AtomSlot a) (number place : ℕ) → AtomWas rules a f p v q → (r : Read (Each AtomSlot xs)) → read_each (read_atom rules) xs f q ≡ r → (read_each (read_atom rules) xs f q ≡ bad number place → AtomsRefused xs q number place) → and_then {Y = Each AtomSlot (a ∷ xs)} r (λ ss e. got (record { 0 = v; 1 = ss }) e) ≡ bad number place → AtomsRefused (a ∷ xs) p number place
  rest_fault a t xs p q v number place w (got ss x) r ih e = absurd (zero_one cc)
  rest_fault a t xs p q v number place w (bad k x) r ih e = later_by a t xs p q v number place w (ih (r ∙ handed e))

  first_fault : (a : Atom) (xs : List Atom) (p number place : ℕ) → T (in_item a) → p ≤ length f → (r : Read (AtomSlot a)) → read_atom rules a f p ≡ r → ((q : ℕ) → q ≤ length f → read_each (read_atom rules) xs f q ≡ bad number place → AtomsRefused xs q number place) → and_then {Y = Each AtomSlot (a ∷ xs)} r (λ v q. and_then (read_each (read_atom rules) xs f q) (λ ss e. got (record { 0 = v; 1 = ss }) e)) ≡ bad number place → AtomsRefused (a ∷ xs) p number place
  unfolding AtomsRefused
  first_fault a xs p number place t l (bad k x) r ih e = let h = atom_fault p l a number place (r ∙ handed e) in (0, here h.0, omega (arith, h.1))
  first_fault a xs p number place t l (got v q) r ih e =
      let w = atom_was rules f b p a (in_item_sane a t) v q l r in
      rest_fault a t xs p q v number place w (read_each (read_atom rules) xs f q) refl (ih q w.within) e

  atoms_fault : (xs : List Atom) → T (every in_item xs) → (p number place : ℕ) → p ≤ length f → read_each (read_atom rules) xs f p ≡ bad number place → AtomsRefused xs p number place
  atoms_fault [] t p number place l e = absurd (zero_one cc)
  atoms_fault (a ∷ xs) t p number place l e = first_fault a xs p number place (left_holds (in_item a) (every in_item xs) t) l (read_atom rules a f p) refl (λ q m r. atoms_fault xs (right_holds (in_item a) (every in_item xs) t) q number place m r) e

  module _ (i : Item) (sane : T (sane_item i)) where
    item_fault : (p number place : ℕ) → p ≤ length f → read_item rules i f p ≡ bad number place → AtomsRefused i.atoms p number place
    item_fault p number place l e = atoms_fault i.atoms (left_holds (every in_item i.atoms) (leb 1 (item_least i)) sane) p number place l e

    -- right items, and after them one with a fault
    record ItemRefused (before p stop number place : ℕ) : Type 0 where
      items : ItemsWere rules i f before p stop
      fault : AtomsRefused i.atoms stop number place

    record PassRefused (n p number place : ℕ) : Type 0 where
      before : ℕ
      stop : ℕ
      fewer : before < n
      item : ItemRefused before p stop number place

    pass_by : (n p number place : ℕ) → p ≤ length f → (r : Read (Each AtomSlot i.atoms)) → read_item rules i f p ≡ r → ((q : ℕ) → q ≤ length f → pass_items rules i n f q ≡ bad number place → PassRefused n q number place) → and_then r (λ s q. pass_items rules i n f q) ≡ bad number place → PassRefused (suc n) p number place
    pass_by n p number place l (bad k x) r ih e =
        record { before = 0; stop = p; fewer = omega arith; item = record { items = no_items rules i sane f b p l; fault = item_fault p number place l (r ∙ handed e) } }
    pass_by n p number place l (got v q) r ih e =
        let w = item_was rules i sane f b p q v l r in
        let h = ih q w.within e in
        record { before = suc h.before; stop = h.stop; fewer = omega (arith, h.fewer); item = record { items = item_before rules i sane f b w h.item.items; fault = h.item.fault } }

    pass_fault : (n p number place : ℕ) → p ≤ length f → pass_items rules i n f p ≡ bad number place → PassRefused n p number place
    unfolding pass_items
    pass_fault zero p number place l e = absurd (zero_one cc)
    pass_fault (suc n) p number place l e = pass_by n p number place l (read_item rules i f p) refl (λ q m r. pass_fault n q number place m r) e

    items_right : (n p q : ℕ) → (w : ItemsWere rules i f n p q) → ItemsBefore rules i (drop p f) (drop q f) n (length (items_bytes i w.contents))
    items_right n p q w = record { contents = w.contents; many = w.many; in_range = w.in_range; writable = w.writable; split = w.split; place = refl }

    -- ---- lists with a count

    module _ (k : Count) (p : ℕ) (l : p ≤ length f) where
      room_fault : (m q n : ℕ) → read_number 2 f p ≡ got m q → count_of k m ≡ pos n → (t : Bool) → leb (n * item_least i) (length f - q) ≡ t → (number place : ℕ) → cond {A = Read ListSlot} t (got (record { start = q; count = n }) q) (bad bad_count p) ≡ bad number place → CountFault k i (drop p f) number × (place ≡ p)
      room_fault m q n r s true t number place e = absurd (zero_one cc)
      room_fault m q n r s false t number place e =
          let en : bad_count ≡ number = cc in
          let ep : p ≡ place = cc in
          let h = there p l 2 m q r in
          let next : q ≡ p + 2 = (whole 2 f p m q r).next in
          let less : length f - q < n * item_least i = leb-false _ _ t in
          (inr (sym en, h.0, inr (n, rw (← h.1) s, simp length-drop (omega arith))), sym ep)

      sign_fault : (m q : ℕ) → read_number 2 f p ≡ got m q → (z : ℤ) → count_of k m ≡ z → (number place : ℕ) → count_at (item_least i) z f p q ≡ bad number place → CountFault k i (drop p f) number × (place ≡ p)
      unfolding count_at
      sign_fault m q r (pos n) s number place e = room_fault m q n r s (leb (n * item_least i) (length f - q)) refl number place e
      sign_fault m q r (negsuc n) s number place e =
          let en : bad_count ≡ number = cc in
          let ep : p ≡ place = cc in
          let h = there p l 2 m q r in
          (inr (sym en, h.0, inl (n, rw (← h.1) s)), sym ep)

      count_fault : (r : Read ℕ) → read_number 2 f p ≡ r → (number place : ℕ) → and_then r (λ n q. count_at (item_least i) (count_of k n) f p q) ≡ bad number place → CountFault k i (drop p f) number × (place ≡ p)
      count_fault (bad c x) r number place e = let h = number_fault p l 2 number place (r ∙ handed e) in (inl h.0, h.1)
      count_fault (got m q) r number place e = sign_fault m q r (count_of k m) refl number place e

      -- an item of a list whose count is right
      listed_fault : (c : ListSlot) (q : ℕ) → Counted k (item_least i) f p c q → (number place : ℕ) → PassRefused c.count q number place → (at : ℕ) × ItemFault rules k i (drop p f) number at × (place ≡ p + at)
      unfolding AtomsRefused
      listed_fault c q w number place h =
          let t = there p l 2 w.bits q w.number in
          let next : p + 2 ≡ q = sym (whole 2 f p w.bits q w.number).next in
          let same : drop 2 (drop p f) ≡ drop q f = drop-drop 2 p f ∙ ap (λ (n : ℕ). drop n f) next in
          let items = h.item.items in
          let first = length (items_bytes i items.contents) in
          let fault = h.item.fault in (
            2 + first + fault.0,
            record {
              n = c.count;
              before = h.before;
              first = first;
              inside = fault.0;
              after = drop h.stop f;
              count = record { there = t.0; is = rw (← t.1) w.count; fit = rw same (simp length-drop (omega (arith, w.room))) };
              items = rw same (items_right h.before q h.stop items);
              fewer = h.fewer;
              fault = fault.1;
              place = refl;
            },
            omega (arith, fault.2, items.next, next),
          )

      CountedRefused : ℕ → ℕ → Type 0
      CountedRefused number place = (at : ℕ) × FieldFault rules (counted k i) (drop p f) number at × (place ≡ p + at)

      counted_pass : (c : ListSlot) (q : ℕ) → Counted k (item_least i) f p c q → (number place : ℕ) (r : Read (Unit {0})) → pass_items rules i c.count f q ≡ r → and_then r (λ _ e. got c e) ≡ bad number place → CountedRefused number place
      unfolding CountedRefused FieldFault
      counted_pass c q w number place (got u x) r e = absurd (zero_one cc)
      counted_pass c q w number place (bad x y) r e =
          let h = listed_fault c q w number place (pass_fault c.count q number place w.fits (r ∙ handed e)) in
          (h.0, inr h.1, h.2)

      counted_by : (number place : ℕ) (r : Read ListSlot) → read_count k (item_least i) f p ≡ r → and_then r (λ c q. and_then (pass_items rules i c.count f q) (λ _ e. got c e)) ≡ bad number place → CountedRefused number place
      unfolding CountedRefused FieldFault read_count
      counted_by number place (bad x y) r e =
          let h = count_fault (read_number 2 f p) refl number place (r ∙ handed e) in
          (0, inl (h.0, refl), omega (arith, h.1))
      counted_by number place (got c q) r e = counted_pass c q (counted_is k (item_least i) f p q c r) number place (pass_items rules i c.count f q) refl e

      counted_fault : (number place : ℕ) → read_counted rules k i f p ≡ bad number place → CountedRefused number place
      unfolding read_counted
      counted_fault number place e = counted_by number place (read_count k (item_least i) f p) refl e

    -- ---- lists that end in zero

    -- nothing is left, or the next item is no zero byte and has a fault
    StopFault : ℕ → ℕ → ℕ → Type 0
    StopFault stop number place =
        ((number ≡ cut) × (drop stop f ≡ []) × (place ≡ stop))
        ⊎ ((1 ≤ length (drop stop f)) × (number_at 1 (drop stop f) 0 ≡ 0 → ⊥) × AtomsRefused i.atoms stop number place)

    record EndedRefused (p number place : ℕ) : Type 0 where
      before : ℕ
      stop : ℕ
      were : EndedWere rules i f before p stop
      fault : StopFault stop number place

    nothing_left : (p number place : ℕ) → p ≤ length f → length f ≤ p → number ≡ cut → place ≡ p → EndedRefused p number place
    unfolding StopFault
    nothing_left p number place l m en ep = record { before = 0; stop = p; were = ended_none rules i sane f b p l; fault = inl (en, drop_of_length-le f m, ep) }

    ended_item_fault : (turns n p number place x y : ℕ) → p ≤ length f → length f ≤ suc turns + p → read_number 1 f p ≡ got x y → eqb x 0 ≡ false → (r : Read (Each AtomSlot i.atoms)) → read_item rules i f p ≡ r → ((q : ℕ) → q ≤ length f → length f ≤ turns + q → ended_from rules i turns f q (suc n) ≡ bad number place → EndedRefused q number place) → and_then r (λ s q. ended_from rules i turns f q (suc n)) ≡ bad number place → EndedRefused p number place
    unfolding StopFault item_bytes
    ended_item_fault turns n p number place x y l m c z (bad k u) r ih e =
        let h = there p l 1 x y c in
        let other : number_at 1 (drop p f) 0 ≡ 0 → ⊥ = λ q. eqb-false x 0 z (h.1 ∙ q) in
        record { before = 0; stop = p; were = ended_none rules i sane f b p l; fault = inr (h.0, other, item_fault p number place l (r ∙ handed e)) }
    ended_item_fault turns n p number place x y l m c z (got v q) r ih e =
        let w = item_was rules i sane f b p q v l r in
        let one = leb→le 1 (item_least i) (right_holds (every in_item i.atoms) (leb 1 (item_least i)) sane) in
        let less : length f ≤ turns + q = omega (arith, w.next, item_least_lem i w.content) in
        let h = ih q w.within less e in
        record { before = suc h.before; stop = h.stop; were = ended_item rules i sane f b w c z h.were; fault = h.fault }

    ended_test_fault : (turns n p number place x y : ℕ) → p ≤ length f → length f ≤ suc turns + p → read_number 1 f p ≡ got x y → ((q : ℕ) → q ≤ length f → length f ≤ turns + q → ended_from rules i turns f q (suc n) ≡ bad number place → EndedRefused q number place) → (t : Bool) → eqb x 0 ≡ t → cond t (got n y) (and_then (read_item rules i f p) (λ s q. ended_from rules i turns f q (suc n))) ≡ bad number place → EndedRefused p number place
    ended_test_fault turns n p number place x y l m c ih true t e = absurd (zero_one cc)
    ended_test_fault turns n p number place x y l m c ih false t e = ended_item_fault turns n p number place x y l m c t (read_item rules i f p) refl ih e

    ended_number_fault : (turns n p number place : ℕ) → p ≤ length f → length f ≤ suc turns + p → ((q : ℕ) → q ≤ length f → length f ≤ turns + q → ended_from rules i turns f q (suc n) ≡ bad number place → EndedRefused q number place) → (r : Read ℕ) → read_number 1 f p ≡ r → and_then r (λ x y. cond (eqb x 0) (got n y) (and_then (read_item rules i f p) (λ s q. ended_from rules i turns f q (suc n)))) ≡ bad number place → EndedRefused p number place
    ended_number_fault turns n p number place l m ih (bad k u) r e =
        let h = number_fault p l 1 number place (r ∙ handed e) in
        nothing_left p number place l (omega (arith, simp length-drop at h.0.1)) h.0.0 h.1
    ended_number_fault turns n p number place l m ih (got x y) r e = ended_test_fault turns n p number place x y l m r ih (eqb x 0) refl e

    -- as many turns as there are bytes left are enough
    ended_from_fault : (turns n p number place : ℕ) → p ≤ length f → length f ≤ turns + p → ended_from rules i turns f p n ≡ bad number place → EndedRefused p number place
    unfolding ended_from
    ended_from_fault zero n p number place l m e =
        let en : cut ≡ number = cc in
        let ep : p ≡ place = cc in
        nothing_left p number place l (omega arith) (sym en) (sym ep)
    ended_from_fault (suc turns) n p number place l m e = ended_number_fault turns n p number place l m (λ q k h r. ended_from_fault turns (suc n) q number place k h r) (read_number 1 f p) refl e

    EndedFieldRefused : ℕ → ℕ → ℕ → Type 0
    EndedFieldRefused p number place = (at : ℕ) × FieldFault rules (ended i) (drop p f) number at × (place ≡ p + at)

    stop_fault : (p number place before stop : ℕ) → EndedWere rules i f before p stop → StopFault stop number place → EndedFieldRefused p number place
    unfolding StopFault EndedFieldRefused FieldFault AtomsRefused items_right
    stop_fault p number place before stop w (inl h) =
        let first = length (items_bytes i w.items.contents) in
        (first + 0, record { before = before; first = first; inside = 0; after = drop stop f; items = items_right before p stop w.items; none = w.none; fault = inl (h.0, h.1, refl); place = refl }, omega (arith, w.items.next, h.2))
    stop_fault p number place before stop w (inr h) =
        let first = length (items_bytes i w.items.contents) in
        let inside = h.2.0 in
        (first + inside, record { before = before; first = first; inside = inside; after = drop stop f; items = items_right before p stop w.items; none = w.none; fault = inr (h.0, h.1, h.2.1); place = refl }, omega (arith, w.items.next, h.2.2))

    ended_by : (p number place : ℕ) → p ≤ length f → (r : Read ℕ) → ended_from rules i (length f) f p 0 ≡ r → and_then {Y = ListSlot} r (λ n e. got (record { start = p; count = n }) e) ≡ bad number place → EndedFieldRefused p number place
    ended_by p number place l (got n q) r e = absurd (zero_one cc)
    ended_by p number place l (bad k x) r e =
        let h = ended_from_fault (length f) 0 p number place l (omega arith) (r ∙ handed e) in
        stop_fault p number place h.before h.stop h.were h.fault

    ended_fault : (p number place : ℕ) → p ≤ length f → read_ended rules i f p ≡ bad number place → EndedFieldRefused p number place
    unfolding read_ended
    ended_fault p number place l e = ended_by p number place l (ended_from rules i (length f) f p 0) refl e

  -- ---- fields

  pub field_fault : (x : Field) → T (sane_field x) → (p number place : ℕ) → p ≤ length f → read rules x f p ≡ bad number place → (at : ℕ) × FieldFault rules x (drop p f) number at × (place ≡ p + at)
  unfolding FieldFault CountedRefused EndedFieldRefused
  field_fault (one a) t p number place l e = let h = atom_fault p l a number place e in (0, (h.0, refl), omega (arith, h.1))
  field_fault (counted k i) t p number place l e = counted_fault i t k p l number place e
  field_fault (ended i) t p number place l e = ended_fault i t p number place l e
