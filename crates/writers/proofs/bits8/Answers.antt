-- `writers::bits8` meets its contract: the library's bits are the format's.
use mathlib.Core.Path.{◌≡◌, refl, ◌∙◌}
use native.Mathlib.Omega.{arith}
use mir.Syntax.{w8}
use mir.Val.{of_z, to_z}
use Rattle.protocol.specs.Bytes.{bits_of}
use Rattle.writers.proofs.Signs.{bits_are, bits_of_lem}
use Rattle.writers.proofs.bits8.Goals as goal

pub returns : goal.returns
returns c =
    let is : c.cast_unsigned.result ≡ bits_of 1 (to_z w8 (of_z w8 c.args.byte)) = c.cast_unsigned.ensures ∙ bits_are w8 1 refl _ in
    bits_of_lem w8 1 c.args.byte c.ranges.byte (omega (arith, is))
