-- Walks over a frame's columns: each stays within the frame, wherever it ends; and one walk is two, one behind the other.
use Prim.Native.Nat.{ℕ, zero, suc, ◌+◌, ◌≤◌}
use mathlib.Core.Bool.{Bool, true, false, cond}
use mathlib.Core.List.{List}
use mathlib.Core.Option.{Option, some}
use mathlib.Core.Path.{◌≡◌, refl}
use native.Mathlib.Omega.{arith}
use borrow.Author.Tests.{leb-true}
use lib.Dec.{leb}
use lib.IntN.{ℤ, pos, negsuc}
use lib.ListN.{length}
use Rattle.protocol.specs.declared.Rules.{Rules}
use Rattle.protocol.specs.declared.Span.{Span}
use Rattle.protocol.specs.Bytes.{number_at, signed_of}
use Rattle.protocol.specs.Each.{Each}
use Rattle.protocol.specs.Fields.{AtomSlot}
use Rattle.protocol.specs.Kinds.{nullable}
use Rattle.protocol.specs.Reading.{Read, got, bad, and_then, read_number, read_item, read_value, value_at, pass_items}
use Rattle.protocol.specs.Refusals.{cut}
use Rattle.row_builder.specs.Building.{place_of}

abbrev pub Between : ℕ → ℕ → ℕ → Type 0
Between p q x = (p ≤ x) × (x ≤ q)

module _ (f : List ℕ) (p : ℕ) (h : p ≤ length f) where
  value_by_lem : (q : ℕ) → p ≤ q → q ≤ length f → (z : ℤ) → Between p (length f) (place_of (value_at z f p q))
  unfolding value_at
  value_by_lem q low high (pos n) = by (leb (q + n) (length f)) refl
    where
      by : (t : Bool) → leb (q + n) (length f) ≡ t → Between p (length f) (place_of {X = Option Span} (cond t (got (some (record { start = q; len = n })) (q + n)) (bad cut p)))
      by true e = let l : q + n ≤ length f = leb-true _ _ e in (omega arith, l)
      by false e = (omega arith, h)
  value_by_lem q low high (negsuc zero) = (low, high)
  value_by_lem q low high (negsuc (suc n)) = (omega arith, h)

  value_within : Between p (length f) (place_of (read_value f p))
  unfolding read_value read_number
  value_within = by (leb (p + 4) (length f)) refl
    where
      by : (t : Bool) → leb (p + 4) (length f) ≡ t
          → Between p (length f) (place_of (and_then (and_then (cond t (got (number_at 4 f p) (p + 4)) (bad cut p)) (λ n q. got (signed_of 4 n) q)) (λ z q. value_at z f p q)))
      by true e = value_by_lem (p + 4) (omega arith) (leb-true _ _ e) _
      by false e = (omega arith, h)

pub pass_within : (rules : Rules) (f : List ℕ) (n p : ℕ) → p ≤ length f → Between p (length f) (place_of (pass_items rules nullable n f p))
unfolding pass_items
pass_within rules f zero p h = (omega arith, h)
pass_within rules f (suc n) p h = by (read_value f p) (value_within f p h) (pass_within rules f n)
  where
    by : (r : Read (Option Span)) → Between p (length f) (place_of r) → ((q : ℕ) → q ≤ length f → Between q (length f) (place_of (pass_items rules nullable n f q)))
        → Between p (length f) (place_of (and_then {X = Each AtomSlot nullable.atoms} (and_then r (λ s q. got (record { 0 = s; 1 = tt }) q)) (λ s q. pass_items rules nullable n f q)))
    by (got v q) w further = let i = further q w.1 in (omega (arith, w.0, i.0), i.1)
    by (bad number place) w further = w

pass_split_by : (rules : Rules) (f : List ℕ) (n m : ℕ) → ((q : ℕ) → pass_items rules nullable (n + m) f q ≡ and_then (pass_items rules nullable n f q) (λ _ q. pass_items rules nullable m f q))
    → (r : Read (Each AtomSlot nullable.atoms))
    → and_then r (λ s q. pass_items rules nullable (n + m) f q) ≡ and_then (and_then r (λ s q. pass_items rules nullable n f q)) (λ _ q. pass_items rules nullable m f q)
pass_split_by rules f n m rest (got s q) = rest q
pass_split_by rules f n m rest (bad number place) = refl

pub pass_split : (rules : Rules) (f : List ℕ) (n m p : ℕ) → pass_items rules nullable (n + m) f p ≡ and_then (pass_items rules nullable n f p) (λ _ q. pass_items rules nullable m f q)
unfolding pass_items
pass_split rules f zero m p =
    let e : 0 + m ≡ m = omega arith in
    rw e refl
pass_split rules f (suc n) m p =
    let e : suc n + m ≡ suc (n + m) = omega arith in
    rw e (pass_split_by rules f n m (pass_split rules f n m) (read_item rules nullable f p))
