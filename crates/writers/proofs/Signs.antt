-- A signed number's two's complement, at each width.
use Prim.Native.Nat.{ℕ, suc, ◌-◌, ◌%◌, ◌<◌, ◌^◌}
use mathlib.Core.List.{List, [], ◌∷◌}
use mathlib.Core.Path.{◌≡◌, refl, ap, ◌∙◌}
use native.Mathlib.Omega.{arith}
use lib.IntN.{ℤ, pos, negsuc}
use mir.Syntax.{Width}
use mir.Val.{SFits, bits, to_z, of_z}
use mir.ValLaws.{to_z-of_z}
use Rattle.protocol.specs.Bytes.{be, bits_of}
use Rattle.writers.specs.Writing.{Wrote}

-- the library's bits of a signed number are the format's: b is the width in bytes
pub bits_are : (w : Width) (b : ℕ) → 2 ^ bits w ≡ 256 ^ b → (x : ℤ) → of_z w x ≡ bits_of b x
unfolding bits_of
bits_are w b e (pos n) = refl
bits_are w b e (negsuc n) = ap (λ (m : ℕ). m - suc n) e

-- a number that is passed on is read back from its bits
pub bits_of_lem : {n : ℕ} (w : Width) (b : ℕ) (x : ℤ) → SFits w x → n ≡ bits_of b (to_z w (of_z w x)) → n ≡ bits_of b x
bits_of_lem w b x f e = e ∙ ap (bits_of b) (to_z-of_z w x f)

-- a signed number of one byte is written as that byte
pub byte_of : {d out : List ℕ} {p next x : ℕ} (z : ℤ) → x < 256 → x ≡ bits_of 1 z → Wrote d p (x ∷ []) 1 out next → Wrote d p (be 1 (bits_of 1 z)) 1 out next
unfolding be
byte_of {x = x} z h e w =
    let f : x % 256 ≡ x = omega arith in
    rw (← e, f) w
