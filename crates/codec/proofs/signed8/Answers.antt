-- `codec::signed8` meets its contract: the library's reading of the bits is the format's.
use Rattle.std.proofs.Common.{◌<◌, ◌^◌, refl, arith}
use Rattle.std.specs.Int.{w8}
use Rattle.std.proofs.lemmas.Int.{of_z-to_z}
use Rattle.protocol.specs.Bytes.{signed_of}
use Rattle.codec.proofs.signed8.Goals as goal

pub returns : goal.returns
unfolding signed_of
returns c =
    let fits : c.args.byte < 2 ^ 8 = omega (arith, c.ranges) in
    rw (c.cast_signed.ensures, of_z-to_z w8 c.args.byte fits) refl
