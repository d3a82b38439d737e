-- A string, by the place of its zero byte.
use Prim.Native.Nat.{ℕ, suc, ◌+◌, ◌-◌, ◌≤◌, ◌<◌}
use mathlib.Core.Bool.{Bool, true, false, cond}
use mathlib.Core.List.{List, [], ◌∷◌}
use mathlib.Core.Option.{Option, some, none}
use mathlib.Core.Path.{◌≡◌, refl, ap}
use native.Mathlib.Omega.{arith}
use lib.Dec.{eqb}
use lib.ListN.{length, drop, length-drop}
use Rattle.protocol.specs.Reading.{got, bad, one_more, zero_in, read_text, text_at}
use Rattle.protocol.specs.Refusals.{cut}
use Rattle.scan.specs.Zero.{before, zero_from}

module _ (z : Option ℕ) (n m : ℕ) where
  found_by : (b : Bool) → (n < m → z ≡ some n) → cond b 0 (suc n) < suc m → cond b (some 0) (one_more z) ≡ some (cond b 0 (suc n))
  unfolding one_more
  found_by true then h = refl
  found_by false then h = ap one_more (then (omega arith))

  missed_by : (b : Bool) → (m ≤ n → z ≡ none) → suc m ≤ cond b 0 (suc n) → cond b (some 0) (one_more z) ≡ none
  unfolding one_more
  missed_by true then h = absurd (omega arith)
  missed_by false then h = ap one_more (then (omega arith))

found : (bs : List ℕ) → before bs < length bs → zero_in bs ≡ some (before bs)
unfolding before zero_in
found [] h = absurd (omega arith)
found (b ∷ bs) h = found_by (zero_in bs) (before bs) (length bs) (eqb b 0) (found bs) h

missed : (bs : List ℕ) → length bs ≤ before bs → zero_in bs ≡ none
unfolding before zero_in
missed [] h = refl
missed (b ∷ bs) h = missed_by (zero_in bs) (before bs) (length bs) (eqb b 0) (missed bs) h

-- r is what the scan from p gives
module _ (f : List ℕ) (p r : ℕ) (e : r ≡ zero_from f p) where
  pub not_before : p ≤ r
  unfolding zero_from
  not_before = omega (arith, e)

  pub at_zero : r < length f → got (record { start = p; len = r - p }) (r + 1) ≡ read_text f p
  unfolding zero_from read_text text_at
  at_zero h =
      let len : r - p ≡ before (drop p f) = omega (arith, e) in
      let next : r + 1 ≡ p + before (drop p f) + 1 = omega (arith, e) in
      rw (found (drop p f) (simp length-drop (omega (arith, e))), len, next) refl

  pub at_end_lem : length f ≤ r → bad cut p ≡ read_text f p
  unfolding zero_from read_text text_at
  at_end_lem h = rw (missed (drop p f) (simp length-drop (omega (arith, e)))) refl
