-- `encode::copy::copy_both_response` meets its contract.
use mathlib.Core.Path.{refl}
use mir.ValLaws.{to_z-of_z}
use mir.Syntax.{w8}
use Rattle.protocol.specs.Kinds as K
use Rattle.encode.specs.Given as G
use Rattle.encode.proofs.Shapes.{as_kind}
use Rattle.encode.proofs.copy.copy_both_response.Goals as goal

pub returns : goal.returns
unfolding K.backend K.copy_both_response G.copy_both_response
returns c = as_kind (rw (to_z-of_z w8 c.args.format c.ranges.format) at c.copy_response.ensures) K.backend (K.copy_both_response).message refl refl
