-- `codec::signed32` meets its contract: the library's reading of the bits is the format's.
use Rattle.std.proofs.Common.{◌<◌, ◌^◌, refl, arith}
use Rattle.std.specs.Int.{w32}
use Rattle.std.proofs.lemmas.Int.{of_z-to_z}
use Rattle.protocol.specs.Bytes.{signed_of}
use Rattle.codec.proofs.signed32.Goals as goal

pub returns : goal.returns
unfolding signed_of
returns c =
    let fits : c.args.word < 2 ^ 32 = omega (arith, c.ranges) in
    rw (c.cast_signed.ensures, of_z-to_z w32 c.args.word fits) refl
