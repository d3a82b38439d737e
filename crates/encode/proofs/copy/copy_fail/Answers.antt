-- `encode::copy::copy_fail` meets its contract.
use mathlib.Core.Path.{refl}
use Rattle.protocol.specs.Kinds as K
use Rattle.encode.specs.Given as G
use Rattle.encode.proofs.Shapes.{as_kind}
use Rattle.encode.proofs.copy.copy_fail.Goals as goal

pub returns : goal.returns
unfolding K.frontend K.copy_fail G.copy_fail
returns c = as_kind c.one_text.ensures K.frontend (K.copy_fail).message refl refl
