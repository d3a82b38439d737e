-- The plain scan, over bytes and blocks that hold no zero.
use Prim.Native.Nat.{ℕ, zero, suc, ◌+◌, ◌-◌, ◌*◌, ◌≤◌}
use mathlib.Core.Bool.{Bool, true, false, cond, not, ◌&&◌, false≢true}
use mathlib.Core.List.{List, [], ◌∷◌, ◌++◌}
use mathlib.Core.Path.{◌≡◌, refl, ap, sym}
use native.Mathlib.Omega.{arith}
use lib.Dec.{eqb}
use lib.ListN.{length, take, drop, drop_of_length-le}
use Rattle.std.specs.Prelude.{Option, Some, None}
use Rattle.std.specs.Option.{unwrap_or}
use Rattle.std.specs.List.{position, position_or_len}
use Rattle.std.specs.Array.{IsFirstChunk}
use Rattle.std.specs.Simd.{first_chunks}
use Rattle.std.proofs.lemmas.Grind.{common_steps}
use Rattle.std.proofs.lemmas.List.{take-append-drop, drop-drop, length-take-le, length-drop, take_all}
use Rattle.std.proofs.lemmas.List.Sums.{prefix_len-le-length}
use Rattle.std.proofs.lemmas.List.Recursion.{is_position_or_len}
use Rattle.scan.specs.Zero.{before, is_clear, zero_from, Passed}

pub at_end_lem : (s : List ℕ) (i : ℕ) → length s ≤ i → zero_from s i ≡ i
unfolding zero_from before
at_end_lem s i h = rw (drop_of_length-le s {i = i} h) (omega arith)

-- the bytes before the first zero are those before the first byte that is zero, and all where there is none
is_before : (bs : List ℕ) → position_or_len (λ b. eqb b 0) bs ≡ before bs
unfolding before
is_before bs = sym (is_position_or_len before (λ b. eqb b 0) refl (λ b bs. ap (cond (eqb b 0) 0) (omega arith)) bs)

-- there are no more than there are bytes
not_more : (bs : List ℕ) → before bs ≤ length bs
unfolding before
not_more [] = omega arith
not_more (b ∷ bs) = by (eqb b 0) (not_more bs)
  where
    by : (t : Bool) → before bs ≤ length bs → cond t 0 (suc (before bs)) ≤ suc (length bs)
    by true h = omega arith
    by false h = omega arith

pub found_there : (s : List ℕ) (i n : ℕ) → Some n ≡ position (λ b. eqb b 0) (drop i s) → i + n ≡ zero_from s i
unfolding zero_from
found_there s i n e = grind (arith, common_steps, is_before (drop i s), e)

pub found_nowhere : (s : List ℕ) (i : ℕ) → i ≤ length s → None ≡ position (λ b. eqb b 0) (drop i s) → length s ≡ zero_from s i
unfolding zero_from
found_nowhere s i h e = grind (arith, common_steps, is_before (drop i s), not_more (drop i s), length-drop i s, e)

-- the place that a search answered, or the end where it found none
pub found_or_all : {X : Type 0} (p : X → Bool) (xs : List X) {r : Option ℕ} → r ≡ position p xs → unwrap_or r (length xs) ≡ position_or_len p xs
found_or_all p xs e = grind (arith, common_steps, prefix_len-le-length (λ x. not (p x)) xs, e)

-- what a slice from i on holds
pub rest_is : (s : List ℕ) (i : ℕ) → take (length s - i) (drop i s) ≡ drop i s
rest_is s i = take_all _ (drop i s) (omega (arith, length-drop i s))

-- of clear bytes all stand before the first zero, and then those behind them
before_clear : (bs cs : List ℕ) → is_clear bs ≡ true → before (bs ++ cs) ≡ length bs + before cs
unfolding before
before_clear [] cs h = omega arith
before_clear (b ∷ bs) cs h = by (eqb b 0) h (before_clear bs cs)
  where
    by : (t : Bool) → not t && is_clear bs ≡ true → (is_clear bs ≡ true → before (bs ++ cs) ≡ length bs + before cs) → cond t 0 (suc (before (bs ++ cs))) ≡ suc (length bs) + before cs
    by true h ih = absurd (false≢true h)
    by false h ih = omega (arith, ih h)

-- the same of the first n bytes
before_first : (bs : List ℕ) (n : ℕ) → n ≤ length bs → is_clear (take n bs) ≡ true → before bs ≡ n + before (drop n bs)
before_first bs n h e =
    let b : before (take n bs ++ drop n bs) ≡ length (take n bs) + before (drop n bs) = before_clear (take n bs) (drop n bs) e in
    let whole : take n bs ++ drop n bs ≡ bs = take-append-drop n bs in
    let l : length (take n bs) ≡ n = length-take-le n bs h in
    rw (l, whole) at b

pub past_clear : (s : List ℕ) (i n : ℕ) {block : List ℕ} → i ≤ length s → IsFirstChunk (take (length s - i) (drop i s)) block n → true ≡ is_clear block → Passed s i (i + n)
unfolding zero_from
past_clear s i n h first e =
    let f = rw (rest_is s i) at first in
    let d : drop n (drop i s) ≡ drop (i + n) s = drop-drop n i s in
    let b = before_first (drop i s) n f.enough (rw f.same at (sym e)) in
    (omega arith, (omega (arith, f.enough, length-drop i s, h), omega (arith, rw d at b)))

-- blocks of 64 bytes up to the first that is not clear
abbrev pub clear_blocks : ℕ → List ℕ → ℕ
clear_blocks m bs = position_or_len (λ b. not (is_clear b)) (first_chunks 64 m bs)

abbrev Counted : List ℕ → ℕ → Type 0
Counted bs n = (64 * n ≤ length bs) × (before bs ≡ 64 * n + before (drop (64 * n) bs))

before_blocks : (m : ℕ) (bs : List ℕ) → 64 * m ≤ length bs → Counted bs (clear_blocks m bs)
before_blocks zero bs h = (omega arith, omega arith)
before_blocks (suc m) bs h = by (is_clear (take 64 bs)) refl (before_blocks m (drop 64 bs) (omega (arith, length-drop 64 bs)))
  where
    by : (t : Bool) → is_clear (take 64 bs) ≡ t → Counted (drop 64 bs) (clear_blocks m (drop 64 bs)) → Counted bs (cond (not (not t)) (1 + clear_blocks m (drop 64 bs)) 0)
    by true e ih =
        let n = clear_blocks m (drop 64 bs) in
        let next : 64 * (1 + n) ≡ 64 + 64 * n = omega arith in
        let first = before_first bs 64 (omega (arith, h)) e in
        (omega (arith, ih.0, length-drop 64 bs), rw (next, ← drop-drop (64 * n) 64 bs) (omega (arith, first, ih.1)))
    by false e ih = (omega arith, omega arith)

pub past_blocks : (s : List ℕ) (i m : ℕ) → i ≤ length s → 64 * m ≤ length (drop i s) → Passed s i (i + 64 * clear_blocks m (drop i s))
unfolding zero_from
past_blocks s i m l h =
    let n = clear_blocks m (drop i s) in
    let d : drop (64 * n) (drop i s) ≡ drop (i + 64 * n) s = drop-drop (64 * n) i s in
    let c = before_blocks m (drop i s) h in
    (omega arith, (omega (arith, c.0, length-drop i s), omega (arith, rw d at c.1)))
