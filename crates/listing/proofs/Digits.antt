-- A number's digits are those that the library prints.
use Rattle.std.proofs.Common.{ℕ, zero, suc, ◌+◌, ◌*◌, ◌/◌, ◌%◌, ◌^◌, ◌<◌, ◌≤◌, List, [], ◌∷◌, ◌≡◌, refl, sym, ◌∙◌, append-nil, arith}
use borrow.Author.Tests.{lt-ltb, le-ltb}
use Rattle.std.specs.Fmt.{decimal as printed}
use Rattle.std.proofs.lemmas.Fmt.{PrependsLastDigit, decimal_from_prepends, length-decimal-le}
use Rattle.listing.specs.Text.{digits_onto, decimal}

-- with one turn more than digits_onto, whose turn 0 writes a digit; what is left before the first turn is put to the digit written last
turns : ℕ → ℕ → List ℕ → List ℕ
turns zero n [] = []
turns zero n (x ∷ later) = (10 * n + x) ∷ later
turns (suc k) n later = digits_onto k n later

turns_prepend : PrependsLastDigit turns
unfolding digits_onto turns
turns_prepend = record { one = one; more = more }
  where
    one : (k n : ℕ) (later : List ℕ) → n < 10 → turns (suc k) n later ≡ (48 + n) ∷ later
    one zero n later h = refl
    one (suc k) n later h = rw (lt-ltb n 10 h) refl

    more : (k n : ℕ) (later : List ℕ) → 10 ≤ n → turns (suc k) n later ≡ turns k (n / 10) ((48 + n % 10) ∷ later)
    more zero n later h = let e : 48 + n ≡ 10 * (n / 10) + (48 + n % 10) = omega arith in rw e refl
    more (suc k) n later h = rw (le-ltb n 10 h) refl

pub printed_is : (n : ℕ) → n < 2 ^ 64 → printed n ≡ decimal n
unfolding decimal digits_onto turns
printed_is n h =
    let few = length-decimal-le 20 n (omega arith) (omega arith) h in
    sym (decimal_from_prepends turns turns_prepend 20 n [] h few ∙ append-nil (printed n))
