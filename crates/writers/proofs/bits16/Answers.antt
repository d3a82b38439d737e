-- `writers::bits16` meets its contract: the library's bits are the format's.
use mathlib.Core.Path.{◌≡◌, refl, ◌∙◌}
use native.Mathlib.Omega.{arith}
use mir.Syntax.{w16}
use mir.Val.{of_z, to_z}
use Rattle.protocol.specs.Bytes.{bits_of}
use Rattle.writers.proofs.Signs.{bits_are, bits_of_lem}
use Rattle.writers.proofs.bits16.Goals as goal

pub returns : goal.returns
returns c =
    let is : c.cast_unsigned.result ≡ bits_of 2 (to_z w16 (of_z w16 c.args.half)) = c.cast_unsigned.ensures ∙ bits_are w16 2 refl _ in
    bits_of_lem w16 2 c.args.half c.ranges.half (omega (arith, is))
