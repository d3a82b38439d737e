-- Numbers and their bytes, in both directions.
use Prim.Native.Nat.{ℕ, zero, suc, ◌+◌, ◌-◌, ◌*◌, ◌/◌, ◌%◌, ◌^◌, ◌≤◌, ◌<◌}
use mathlib.Core.Bool.{Bool, true, false}
use mathlib.Core.List.{List, [], ◌∷◌, ◌++◌, append-nil, append_assoc}
use mathlib.Core.Path.{◌≡◌, refl, ap, ◌∙◌}
use native.Mathlib.Nat.{div-add-mod', div-lt_iff_lt-mul, pow-suc, mul-le-mul_right, mul_assoc, mul_comm}
use native.Mathlib.Omega.{arith}
use borrow.Author.Tests.{ltb-true, ltb-false}
use lib.Dec.{lit<, ltb}
use lib.IntN.{ℤ, pos, negsuc}
use lib.ListN.{length, take, drop, length-append, length-drop}
use lib.Seq.{drop-append_seam, take_at, length-take-le}
use lib.Signed.{mag}
use Rattle.protocol.specs.Bytes.{Bytes, number_from, number_at, be, signed_of, bits_of}
use Rattle.protocol.proofs.Numbers.{lower, upper}

-- ---- bytes

pub bytes_append : (s t : List ℕ) → Bytes s → Bytes t → Bytes (s ++ t)
unfolding Bytes
bytes_append [] t b c = c
bytes_append (x ∷ s) t b c = (b.0, bytes_append s t b.1 c)

pub bytes_take : (n : ℕ) (s : List ℕ) → Bytes s → Bytes (take n s)
unfolding Bytes
bytes_take zero s b = tt
bytes_take (suc n) [] b = tt
bytes_take (suc n) (x ∷ s) b = (b.0, bytes_take n s b.1)

pub bytes_drop : (n : ℕ) (s : List ℕ) → Bytes s → Bytes (drop n s)
unfolding Bytes
bytes_drop zero s b = b
bytes_drop (suc n) [] b = tt
bytes_drop (suc n) (x ∷ s) b = bytes_drop n s b.1

-- ---- the bytes of a number

pub length-be : (w n : ℕ) → length (be w n) ≡ w
unfolding be
length-be zero n = refl
length-be (suc w) n = simp (length-append, length-be w (n / 256)) (omega arith)

pub number_from_append : (acc : ℕ) (s t : List ℕ) → number_from acc (s ++ t) ≡ number_from (number_from acc s) t
unfolding number_from
number_from_append acc [] t = refl
number_from_append acc (x ∷ s) t = number_from_append (acc * 256 + x) s t

-- give the number
pub number_from-be : (w n : ℕ) → n < 256 ^ w → number_from 0 (be w n) ≡ n
unfolding be number_from
number_from-be zero n h = omega arith
number_from-be (suc w) n h =
    number_from_append 0 (be w (n / 256)) (n % 256 ∷ []) ∙ rw (number_from-be w (n / 256) ((div-lt_iff_lt-mul (lit< tt)).1 (rw (pow-suc 256 w) at h))) (div-add-mod' n 256)

-- ---- the number of some bytes

be_onto : (w acc : ℕ) (s : List ℕ) → Bytes s → be (w + length s) (number_from acc s) ≡ be w acc ++ s
unfolding be number_from Bytes
be_onto w acc [] b =
    let l : w + 0 ≡ w = omega arith in
    rw (append-nil (be w acc), l) refl
be_onto w acc (x ∷ s) b =
    let l : w + suc (length s) ≡ suc w + length s = omega arith in
    let q : (acc * 256 + x) / 256 ≡ acc = omega (arith, b.0) in
    let r : (acc * 256 + x) % 256 ≡ x = omega (arith, b.0) in
    rw l (be_onto (suc w) (acc * 256 + x) s b.1 ∙ rw (q, r, append_assoc (be w acc) (x ∷ []) s) refl)

-- has those bytes
pub be_number : (s : List ℕ) → Bytes s → be (length s) (number_from 0 s) ≡ s
unfolding be
be_number s b =
    let l : 0 + length s ≡ length s = omega arith in
    rw l at (be_onto 0 0 s b)

below : (acc : ℕ) (s : List ℕ) → Bytes s → number_from acc s < (acc + 1) * 256 ^ length s
unfolding number_from Bytes
below acc [] b = omega arith
below acc (x ∷ s) b =
    let h = below (acc * 256 + x) s b.1 in
    let l : acc * 256 + x + 1 ≤ (acc + 1) * 256 = omega (arith, b.0) in
    let m = mul-le-mul_right (256 ^ length s) l in
    rw (pow-suc 256 (length s)) (omega (arith, h, m, mul_assoc (acc + 1) 256 (256 ^ length s), mul_comm (256 ^ length s) 256))

-- and is below 256 to how many there are
pub number_below : (s : List ℕ) → Bytes s → number_from 0 s < 256 ^ length s
number_below s b = omega (arith, below 0 s b)

-- ---- the number at a place

-- the w bytes at p, where they are there
pub be_at : (w p : ℕ) (s : List ℕ) → Bytes s → p + w ≤ length s → be w (number_at w s p) ≡ take w (drop p s)
unfolding number_at
be_at w p s b h =
    let l : length (take w (drop p s)) ≡ w = length-take-le w (drop p s) (simp length-drop (omega arith)) in
    rw l at (be_number (take w (drop p s)) (bytes_take w (drop p s) (bytes_drop p s b)))

pub number_at_below : (w p : ℕ) (s : List ℕ) → Bytes s → p + w ≤ length s → number_at w s p < 256 ^ w
unfolding number_at
number_at_below w p s b h =
    let l : length (take w (drop p s)) ≡ w = length-take-le w (drop p s) (simp length-drop (omega arith)) in
    rw l at (number_below (take w (drop p s)) (bytes_take w (drop p s) (bytes_drop p s b)))

-- a number's bytes, after pre
pub at_be : (w n : ℕ) (pre post : List ℕ) → n < 256 ^ w → number_at w (pre ++ (be w n ++ post)) (length pre) ≡ n
unfolding number_at
at_be w n pre post h = rw (drop-append_seam pre (be w n ++ post), take_at (be w n) post w (length-be w n)) (number_from-be w n h)

-- ---- signed numbers

-- the two halves of a width that is not 0
pub halves : (w : ℕ) → 256 ^ suc w / 2 + 256 ^ suc w / 2 ≡ 256 ^ suc w
halves w = rw (pow-suc 256 w) (omega arith)

module _ (v : ℕ) where
  pub bits_below : (z : ℤ) → mag z < 256 ^ suc v / 2 → bits_of (suc v) z < 256 ^ suc v
  unfolding bits_of
  bits_below (pos n) h = omega (arith, halves v)
  bits_below (negsuc n) h = omega (arith, halves v)

  -- there and back
  pub signed_bits : (z : ℤ) → mag z < 256 ^ suc v / 2 → signed_of (suc v) (bits_of (suc v) z) ≡ z
  unfolding bits_of
  signed_bits (pos n) h = lower (suc v) n h
  signed_bits (negsuc n) h = upper (suc v) (256 ^ suc v - suc n) (omega (arith, halves v)) ∙ ap negsuc (omega (arith, halves v))

  by_half : (n : ℕ) → n < 256 ^ suc v → (t : Bool) → ltb n (256 ^ suc v / 2) ≡ t → (mag (signed_of (suc v) n) < 256 ^ suc v / 2) × (bits_of (suc v) (signed_of (suc v) n) ≡ n)
  unfolding bits_of
  by_half n h true e = let l = ltb-true n (256 ^ suc v / 2) e in rw (lower (suc v) n l) (l, refl)
  by_half n h false e =
      let l = ltb-false n (256 ^ suc v / 2) e in
      rw (upper (suc v) n l) (omega (arith, halves v), omega (arith, halves v))

  pub signed_in_range : (n : ℕ) → n < 256 ^ suc v → mag (signed_of (suc v) n) < 256 ^ suc v / 2
  signed_in_range n h = (by_half n h (ltb n (256 ^ suc v / 2)) refl).0

  pub bits_signed : (n : ℕ) → n < 256 ^ suc v → bits_of (suc v) (signed_of (suc v) n) ≡ n
  bits_signed n h = (by_half n h (ltb n (256 ^ suc v / 2)) refl).1
