-- Numbers that are read: where one was read it is whole, and what its sign is.
use Prim.Native.Nat.{ℕ, zero, suc, ◌+◌, ◌-◌, ◌/◌, ◌^◌, ◌≤◌, ◌<◌}
use mathlib.Core.List.{List, [], ◌∷◌}
use mathlib.Core.Path.{◌≡◌, refl, ap, ◌∙◌, sym}
use native.Mathlib.Omega.{arith}
use borrow.Author.Tests.{le-leb, lt-ltb, le-ltb, leb-true, leb-false}
use lib.Dec.{leb}
use lib.IntN.{pos, negsuc}
use lib.ListN.{length, take, drop}
use lib.Seq.{length-take-le, take-nil, take-take}
use Rattle.protocol.specs.Bytes.{number_at, signed_of}
use Rattle.protocol.specs.Reading.{got, bad, read_number}
use Rattle.protocol.proofs.Basics.{got-bad, bad-got, first_chosen, second_chosen}

-- a number that was read
pub record Whole (w : ℕ) (f : List ℕ) (p n q : ℕ) : Type 0 where
  pub fits : q ≤ length f
  pub next : q ≡ p + w
  pub is : n ≡ number_at w f p

pub whole : (w : ℕ) (f : List ℕ) (p n q : ℕ) → read_number w f p ≡ got n q → Whole w f p n q
unfolding read_number
whole w f p n q e =
    let c = first_chosen (leb (p + w) (length f)) bad-got e in
    let g = c.1 in
    let en : number_at w f p ≡ n = cc in
    let eq : p + w ≡ q = cc in
    let h : p + w ≤ length f = leb-true _ _ c.0 in
    record { fits = omega arith; next = sym eq; is = sym en }

-- a number that was not
pub not_whole : (w : ℕ) (f : List ℕ) (p k q : ℕ) → read_number w f p ≡ bad k q → length f < p + w
unfolding read_number
not_whole w f p k q e = leb-false _ _ (second_chosen (leb (p + w) (length f)) got-bad e).0

-- the lower half is not negative, the upper half is
pub lower : (w n : ℕ) → n < 256 ^ w / 2 → signed_of w n ≡ pos n
unfolding signed_of
lower w n h = rw (lt-ltb n (256 ^ w / 2) h) refl

pub upper : (w n : ℕ) → 256 ^ w / 2 ≤ n → signed_of w n ≡ negsuc (256 ^ w - suc n)
unfolding signed_of
upper w n h = rw (le-ltb n (256 ^ w / 2) h) refl

take_none : (k : ℕ) (s : List ℕ) → k ≤ 0 → [] ≡ take k s
take_none zero s h = refl
take_none (suc k) s h = absurd (omega arith)

-- a number within the first n bytes is the same in them alone
pub drop-take : (p n : ℕ) (s : List ℕ) → drop p (take n s) ≡ take (n - p) (drop p s)
drop-take zero n s = let e : n ≡ n - 0 = omega arith in ap (λ (k : ℕ). take k s) e
drop-take (suc p) zero [] = take_none (0 - suc p) [] (omega arith)
drop-take (suc p) (suc n) [] = sym (take-nil (suc n - suc p))
drop-take (suc p) zero (b ∷ s) = take_none (0 - suc p) (drop p s) (omega arith)
drop-take (suc p) (suc n) (b ∷ s) =
    let e : n - p ≡ suc n - suc p = omega arith in
    drop-take p n s ∙ ap (λ (k : ℕ). take k (drop p s)) e

pub number_take : (w p n : ℕ) (s : List ℕ) → p + w ≤ n → number_at w (take n s) p ≡ number_at w s p
unfolding number_at
number_take w p n s h = rw (drop-take p n s, take-take w (n - p) (drop p s) (omega arith)) refl

pub read_take : (w p n : ℕ) (s : List ℕ) → p + w ≤ n → n ≤ length s → read_number w (take n s) p ≡ got (number_at w s p) (p + w)
unfolding read_number
read_take w p n s h l = rw (length-take-le n s l, le-leb (p + w) n h, number_take w p n s h) refl
