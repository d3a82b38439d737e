-- Past items of one size, by arithmetic.
use Rattle.std.specs.Prelude.{ℕ, zero, suc, ◌+◌, ◌-◌, ◌*◌, ◌/◌, ◌≤◌, ◌<◌, Bool, true, false, ltb, List, length}
use Rattle.std.proofs.Common.{◌≡◌, refl, ap, sym, ◌∙◌, arith}
use Rattle.std.proofs.Math.Nat.{div-mul-le_self, lt-div-mul-add}
use native.Mathlib.Nat.{mul-le-mul}
use borrow.Author.Tests.{ltb-true, ltb-false}
use Rattle.protocol.specs.declared.Rules.{Rules}
use Rattle.protocol.specs.Fields.{Item}
use Rattle.protocol.specs.Kinds.{oid, format}
use Rattle.protocol.specs.Reading.{got, bad, read_item, pass_items}
use Rattle.protocol.specs.Refusals.{cut}
use Rattle.protocol.proofs.Counts.{Steady, pass_steady}
use Rattle.codec.proofs.Lists.{oid_steady, format_steady}
use Rattle.codec.proofs.Numbers.{number_cut}
use Rattle.items.specs.ItemRead.{pass_fixed}

-- an item that needs w bytes, where fewer are left
abbrev Short : Rules → Item → ℕ → List ℕ → Type 0
Short rules i w f = (p : ℕ) → length f < p + w → read_item rules i f p ≡ bad cut p

module _ (rules : Rules) (i : Item) (w : ℕ) (f : List ℕ) (some : 0 < w) (steady : Steady rules i w f) (short : Short rules i w f) where
  -- behind k whole ones
  cut_after : (k n p : ℕ) → k < n → k * w ≤ length f - p → length f < p + k * w + w → pass_items rules i n f p ≡ bad cut (p + k * w)
  unfolding pass_items
  cut_after k zero p h l m = absurd (omega arith)
  cut_after zero (suc n) p h l m = rw (short p (omega arith)) (ap (bad cut) (omega arith))
  cut_after (suc k) (suc n) p h l m =
      let here : p + w + k * w ≤ length f = omega arith in
      rw (steady p (omega arith)).1 (cut_after k n (p + w) (omega arith) (omega arith) (omega arith) ∙ ap (bad cut) (omega arith))

  whole : (n p : ℕ) → n * w ≤ length f - p → got tt (p + n * w) ≡ pass_items rules i n f p
  unfolding pass_items
  whole zero p h = ap (got tt) (omega arith)
  whole (suc n) p h = sym (pass_steady rules i w f steady (suc n) p (omega arith))

  pub fixed_passed : (n p : ℕ) → pass_fixed w n (length f) p ≡ pass_items rules i n f p
  unfolding pass_fixed
  fixed_passed n p = by (ltb k n) refl
    where
      k : ℕ
      k = (length f - p) / w

      by : (t : Bool) → ltb k n ≡ t → pass_fixed w n (length f) p ≡ pass_items rules i n f p
      by true t =
          let fits : k * w ≤ length f - p = div-mul-le_self (length f - p) w in
          let over : length f - p < k * w + w = lt-div-mul-add some in
          rw t (sym (cut_after k n p (ltb-true _ _ t) fits (omega (arith, over))))
      by false t =
          let fits : k * w ≤ length f - p = div-mul-le_self (length f - p) w in
          let all : n * w ≤ k * w = mul-le-mul {m₁ = w} {m₂ = w} (ltb-false _ _ t) (omega arith) in
          rw t (whole n p (omega (arith, fits, all)))

pub oids_passed : (rules : Rules) (f : List ℕ) (n p : ℕ) → pass_fixed 4 n (length f) p ≡ pass_items rules oid n f p
oids_passed rules f = fixed_passed rules oid 4 f (omega arith) (oid_steady rules f) (λ p h. rw (← number_cut f p 4 h) refl)

pub formats_passed : (rules : Rules) (f : List ℕ) (n p : ℕ) → pass_fixed 2 n (length f) p ≡ pass_items rules format n f p
formats_passed rules f = fixed_passed rules format 2 f (omega arith) (format_steady rules f) (λ p h. rw (← number_cut f p 2 h) refl)
