-- Where a body was read, the items of one size of each of its lists stand within the frame.
use Prim.Native.Nat.{ℕ, zero, suc, ◌+◌, ◌*◌, ◌≤◌}
use mathlib.Core.Bool.{Bool, true, false}
use mathlib.Core.List.{List, [], ◌∷◌}
use mathlib.Core.Option.{some}
use mathlib.Core.Path.{◌≡◌, refl, ap, ◌∙◌}
use native.Mathlib.Omega.{arith}
use lib.Dec.{T}
use lib.ListN.{length}
use Rattle.std.specs.Prelude.{Option as Maybe, Some, None}
use Rattle.protocol.specs.declared.List.{List as ListSlot}
use Rattle.protocol.specs.declared.Rules.{Rules}
use Rattle.protocol.specs.Each.{Each, least_of_each}
use Rattle.protocol.specs.Elements.{Listed, list_in}
use Rattle.protocol.specs.Fields.{Atom, unsigned, signed, one_of, text, value, rest, Item, item_least, Count, Field, one, counted, ended, Slot}
use Rattle.protocol.specs.Kinds.{Kind, Mode, modes, the_table}
use Rattle.protocol.specs.Reading.{Read, got, bad, and_then, read, read_each, pass_items, read_count, read_counted}
use Rattle.protocol.proofs.Basics.{zero_one}
use Rattle.protocol.proofs.Counts.{counted_is}
use Rattle.protocol.proofs.Find.{All}
use Rattle.element.specs.declared.list.Sort.TheVariants as S
use Rattle.element.specs.declared.list.Sort.{Sort}
use Rattle.element.specs.OneList.{item_of, listed_of, FitsSort, Fits}

-- ---- a list that ends in zero has items of several sizes: no count tells that they fit

abbrev varies : List Atom → Bool
varies [] = false
varies (unsigned w ∷ xs) = varies xs
varies (signed w ∷ xs) = varies xs
varies (one_of bs ∷ xs) = varies xs
varies (text ∷ xs) = true
varies (value ∷ xs) = true
varies (rest ∷ xs) = true

abbrev ended_varies : Field → Bool
ended_varies (one a) = true
ended_varies (counted k i) = true
ended_varies (ended i) = varies i.atoms

abbrev pub EndedVary : List Field → Type 0
EndedVary xs = All (λ (x : Field). T (ended_varies x)) xs

pub ended_vary : All (λ (m : Mode). All (λ (k : Kind). EndedVary k.body) m.kinds) modes
unfolding the_table
ended_vary = search tt depth 60 fits 5000

module _ (f : List ℕ) where
  -- the items of list l stand within the frame, if it has a count
  abbrev pub ListFits : (xs : List Field) → ℕ → Each Slot xs → Type 0
  ListFits [] l s = Unit {0}
  ListFits (one a ∷ xs) l s = ListFits xs l s.1
  ListFits (counted k i ∷ xs) zero s = s.0.start + s.0.count * item_least i ≤ length f
  ListFits (counted k i ∷ xs) (suc l) s = ListFits xs l s.1
  ListFits (ended i ∷ xs) zero s = Unit {0}
  ListFits (ended i ∷ xs) (suc l) s = ListFits xs l s.1

  -- ---- what was read fits

  counted_by : (k : Count) (i : Item) (p q q' : ℕ) (l l' : ListSlot) → read_count k (item_least i) f p ≡ got l' q' → (r : Read (Unit {0})) → and_then r (λ _ e. got l' e) ≡ got l q → l.start + l.count * item_least i ≤ length f
  counted_by k i p q q' l l' c (got t e) h =
      let same : l' ≡ l = cc in
      let w = counted_is k (item_least i) f p q' l (c ∙ ap (λ (x : ListSlot). got x q') same) in
      omega (arith, w.start, w.fits, w.room)
  counted_by k i p q q' l l' c (bad number place) h = absurd (zero_one cc)

  count_by : (rules : Rules) (k : Count) (i : Item) (p q : ℕ) (l : ListSlot) (r : Read ListSlot) → read_count k (item_least i) f p ≡ r → and_then r (λ l q. and_then (pass_items rules i l.count f q) (λ _ e. got l e)) ≡ got l q → l.start + l.count * item_least i ≤ length f
  count_by rules k i p q l (got l' q') c h = counted_by k i p q q' l l' c (pass_items rules i l'.count f q') h
  count_by rules k i p q l (bad number place) c h = absurd (zero_one cc)

  counted_fits : (rules : Rules) (k : Count) (i : Item) (p q : ℕ) (l : ListSlot) → read_counted rules k i f p ≡ got l q → l.start + l.count * item_least i ≤ length f
  unfolding read_counted
  counted_fits rules k i p q l h = count_by rules k i p q l (read_count k (item_least i) f p) refl h

  -- a body that was read: its first field was, and then the others
  module _ (x : Field) (xs : List Field) (s : Each Slot (x ∷ xs)) (q : ℕ) where
    others_by : (a : Slot x) (r : Read (Each Slot xs)) → ◌≡◌ {A = Read (Each Slot (x ∷ xs))} (and_then r (λ ss e. got (record { 0 = a; 1 = ss }) e)) (got s q) → (a ≡ s.0) × (r ≡ got s.1 q)
    others_by a (got ss e) h =
        let same : ◌≡◌ {A = Each Slot (x ∷ xs)} (record { 0 = a; 1 = ss }) s = cc in
        let end : e ≡ q = cc in
        (ap (λ (v : Each Slot (x ∷ xs)). v.0) same, ap (λ (v : Each Slot (x ∷ xs)). got v.1 e) same ∙ ap (got s.1) end)
    others_by a (bad number place) h = absurd (zero_one cc)

    first_by : (rules : Rules) (p : ℕ) (r : Read (Slot x)) → ◌≡◌ {A = Read (Each Slot (x ∷ xs))} (and_then r (λ a m. and_then (read_each (read rules) xs f m) (λ ss e. got (record { 0 = a; 1 = ss }) e))) (got s q) → (m : ℕ) × (r ≡ got s.0 m) × (read_each (read rules) xs f m ≡ got s.1 q)
    first_by rules p (got a m) h =
        let o = others_by a (read_each (read rules) xs f m) h in
        (m, ap (λ (v : Slot x). got v m) o.0, o.1)
    first_by rules p (bad number place) h = absurd (zero_one cc)

  pub read_fits : (rules : Rules) (xs : List Field) (l p q : ℕ) (s : Each Slot xs) → read_each (read rules) xs f p ≡ got s q → ListFits xs l s
  read_fits rules [] l p q s h = tt
  read_fits rules (one a ∷ xs) l p q s h =
      let o = first_by (one a) xs s q rules p (read rules (one a) f p) h in
      read_fits rules xs l o.0 q s.1 o.2
  read_fits rules (counted k i ∷ xs) zero p q s h =
      let o = first_by (counted k i) xs s q rules p (read rules (counted k i) f p) h in
      counted_fits rules k i p o.0 s.0 o.1
  read_fits rules (counted k i ∷ xs) (suc l) p q s h =
      let o = first_by (counted k i) xs s q rules p (read rules (counted k i) f p) h in
      read_fits rules xs l o.0 q s.1 o.2
  read_fits rules (ended i ∷ xs) zero p q s h = tt
  read_fits rules (ended i ∷ xs) (suc l) p q s h =
      let o = first_by (ended i) xs s q rules p (read rules (ended i) f p) h in
      read_fits rules xs l o.0 q s.1 o.2

  -- ---- of a list that the code found

  fits_sort : (sort : Sort) (x : ListSlot) → x.start + x.count * item_least (item_of sort) ≤ length f → FitsSort f x sort
  unfolding item_least least_of_each
  fits_sort S.Oid x h = h
  fits_sort S.Format x h = h
  fits_sort S.Value x h = tt
  fits_sort S.Field x h = tt
  fits_sort S.ErrorField x h = tt
  fits_sort S.Pair x h = tt

  fits_varied : (sort : Sort) (x : ListSlot) → T (varies (item_of sort).atoms) → FitsSort f x sort
  fits_varied S.Oid x h = absurd h
  fits_varied S.Format x h = absurd h
  fits_varied S.Value x h = tt
  fits_varied S.Field x h = tt
  fits_varied S.ErrorField x h = tt
  fits_varied S.Pair x h = tt

  module _ (sort : Sort) (x : ListSlot) where
    found_fits : (xs : List Field) (l : ℕ) (s : Each Slot xs) → EndedVary xs → ListFits xs l s → some (record { item = item_of sort; list = x }) ≡ list_in xs l s → FitsSort f x sort
    unfolding list_in
    found_fits [] l s v h e = absurd (zero_one cc)
    found_fits (one a ∷ xs) l s v h e = found_fits xs l s.1 v.1 h e
    found_fits (counted k i ∷ xs) zero s v h e =
        let same : ◌≡◌ {A = Listed} (record { item = item_of sort; list = x }) (record { item = i; list = s.0 }) = cc in
        fits_sort sort x (rw (ap (λ (y : Listed). y.item) same, ap (λ (y : Listed). y.list) same) h)
    found_fits (counted k i ∷ xs) (suc l) s v h e = found_fits xs l s.1 v.1 h e
    found_fits (ended i ∷ xs) zero s v h e =
        let same : ◌≡◌ {A = Listed} (record { item = item_of sort; list = x }) (record { item = i; list = s.0 }) = cc in
        fits_varied sort x (rw (ap (λ (y : Listed). y.item) same) v.0)
    found_fits (ended i ∷ xs) (suc l) s v h e = found_fits xs l s.1 v.1 h e

  pub list_fits : (xs : List Field) (l : ℕ) (s : Each Slot xs) → EndedVary xs → ListFits xs l s → (r : Maybe (Sort × ListSlot)) → listed_of r ≡ list_in xs l s → Fits f r
  list_fits xs l s v h (Some (sort, x)) e = found_fits sort x xs l s v h e
  list_fits xs l s v h None e = tt
