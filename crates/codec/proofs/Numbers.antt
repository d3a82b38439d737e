-- A number of a frame, byte by byte.
use Prim.Native.Nat.{ℕ, suc, ◌+◌, ◌-◌, ◌*◌, ◌≤◌, ◌<◌}
use mathlib.Core.List.{List}
use mathlib.Core.Path.{◌≡◌, refl, ap, ◌∙◌}
use native.Mathlib.Nat.{add-suc, add-zero}
use native.Mathlib.Numerals.{add-one}
use native.Mathlib.Omega.{arith}
use borrow.Author.Tests.{le-leb, lt-leb}
use lib.ListN.{length, get_or, take, drop}
use Rattle.std.specs.List.{slice_range}
use Rattle.std.proofs.lemmas.List.{take_all, get_or-drop, length-drop}
use lib.Seq.{drop-cons}
use Rattle.protocol.specs.Bytes.{number_from, number_at}
use Rattle.protocol.specs.Reading.{got, bad, read_number}
use Rattle.protocol.specs.Refusals.{cut}

module _ (f : List ℕ) (p : ℕ) where
  first : (w : ℕ) → p < length f → number_from 0 (take (suc w) (drop p f)) ≡ number_from (get_or f p 0) (take w (drop (p + 1) f))
  unfolding number_from
  first w h = rw (drop-cons f p 0 h, add-one p) (ap (λ (n : ℕ). number_from n (take w (drop (suc p) f))) (omega arith))

  next : (w k acc : ℕ) → p + k < length f → number_from acc (take (suc w) (drop (p + k) f)) ≡ number_from (acc * 256 + get_or f (p + k) 0) (take w (drop (p + suc k) f))
  unfolding number_from
  next w k acc h = rw (drop-cons f (p + k) 0 h, add-suc p k) refl

  pub byte_at : p + 1 ≤ length f → number_at 1 f p ≡ get_or f p 0
  unfolding number_at number_from
  byte_at h = first 0 (omega arith)

  pub half_at : p + 2 ≤ length f → number_at 2 f p ≡ get_or f p 0 * 256 + get_or f (p + 1) 0
  unfolding number_at number_from
  half_at h = first 1 (omega arith) ∙ next 0 1 _ (omega arith)

  pub word_at : p + 4 ≤ length f → number_at 4 f p ≡ get_or f p 0 * 16777216 + get_or f (p + 1) 0 * 65536 + get_or f (p + 2) 0 * 256 + get_or f (p + 3) 0
  unfolding number_at number_from
  word_at h = first 3 (omega arith) ∙ next 2 1 _ (omega arith) ∙ next 1 2 _ (omega arith) ∙ next 0 3 _ (omega arith) ∙ omega arith

  -- a number of four bytes is below 2 ^ 32
  pub word_small : ((k : ℕ) → get_or f k 0 < 256) → p + 4 ≤ length f → number_at 4 f p < 4294967296
  word_small byte h = omega (arith, word_at h, byte p, byte (p + 1), byte (p + 2), byte (p + 3))

  -- what a step answers where the number is whole, and where it is cut
  pub number_got : (w n : ℕ) → p + w ≤ length f → n ≡ number_at w f p → got n (p + w) ≡ read_number w f p
  unfolding read_number
  number_got w n h e = rw (le-leb (p + w) (length f) h) (ap (λ (n : ℕ). got n (p + w)) e)

  pub number_cut : (w : ℕ) → length f < p + w → bad cut p ≡ read_number w f p
  unfolding read_number
  number_cut w h = rw (lt-leb (p + w) (length f) h) refl

-- the bytes that stand from p on
module _ (f rest : List ℕ) (p : ℕ) (e : rest ≡ slice_range f p (length f)) where
  from_rest : (k : ℕ) → get_or rest k 0 ≡ get_or f (p + k) 0
  from_rest k =
      let all : length (drop p f) ≤ length f - p = omega (arith, length-drop p f) in
      rw (e, take_all (length f - p) (drop p f) all) (get_or-drop p f k 0)

  -- the number that the first two or four of them are
  pub half_from : p + 2 ≤ length f → get_or rest 0 0 * 256 + get_or rest 1 0 ≡ number_at 2 f p
  half_from h = rw (from_rest 0, from_rest 1, half_at f p h, add-zero p) refl

  pub word_from : p + 4 ≤ length f → get_or rest 0 0 * 16777216 + get_or rest 1 0 * 65536 + get_or rest 2 0 * 256 + get_or rest 3 0 ≡ number_at 4 f p
  word_from h = rw (from_rest 0, from_rest 1, from_rest 2, from_rest 3, word_at f p h, add-zero p) refl
