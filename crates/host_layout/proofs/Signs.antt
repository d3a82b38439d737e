-- A signed number that is passed on, and a narrow one made wider.
use mathlib.Core.Path.{◌≡◌, ap, sym, subst, ◌∙◌}
use Prim.Native.Nat.{ℕ, ◌<◌, ◌^◌}
use lib.Dec.{T, leb}
use lib.IntN.{ℤ}
use lib.Signed.{mag}
use mir.Syntax.{Width, w32}
use mir.Val.{SFits, hbits, to_z, of_z}
use mir.Facts.{sfits_widen}
use mir.ValLaws.{to_z-of_z}
use Rattle.protocol.specs.Bytes.{bits_of}

-- a number that is passed on is read back from its bits, and so are its 32 bits
pub back : (w : Width) (x : ℤ) → mag x < 2 ^ hbits w → to_z w (of_z w x) ≡ x
back w x h = to_z-of_z w x (record { sfits = h })

pub passed : (w : Width) {n : ℕ} (x : ℤ) → mag x < 2 ^ hbits w → n ≡ bits_of 4 (to_z w (of_z w x)) → n ≡ bits_of 4 x
passed w x h e = e ∙ ap (bits_of 4) (back w x h)

module _ (w : Width) (x : ℤ) (narrower : T (leb (hbits w) (hbits w32))) (fits : SFits w x) where
  pub widens : SFits w32 (to_z w (of_z w x))
  widens = subst (SFits w32) (sym (to_z-of_z w x fits)) (sfits_widen narrower fits)

  pub wide_bits_of : {n : ℕ} → n ≡ bits_of 4 (to_z w32 (of_z w32 (to_z w (of_z w x)))) → n ≡ bits_of 4 x
  wide_bits_of e = e ∙ ap (λ (y : ℤ). bits_of 4 (to_z w32 (of_z w32 y))) (to_z-of_z w x fits) ∙ ap (bits_of 4) (to_z-of_z w32 x (sfits_widen narrower fits))
