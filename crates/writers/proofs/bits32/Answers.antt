-- `writers::bits32` meets its contract: the library's bits are the format's.
use mathlib.Core.Path.{◌≡◌, refl, ◌∙◌}
use native.Mathlib.Omega.{arith}
use mir.Syntax.{w32}
use mir.Val.{of_z, to_z}
use Rattle.protocol.specs.Bytes.{bits_of}
use Rattle.writers.proofs.Signs.{bits_are, bits_of_lem}
use Rattle.writers.proofs.bits32.Goals as goal

pub returns : goal.returns
returns c =
    let is : c.cast_unsigned.result ≡ bits_of 4 (to_z w32 (of_z w32 c.args.word)) = c.cast_unsigned.ensures ∙ bits_are w32 4 refl _ in
    bits_of_lem w32 4 c.args.word c.ranges.word (omega (arith, is))
