-- `encode::extendedquery::describe` meets its contract.
use mathlib.Core.Path.{refl}
use Rattle.protocol.specs.Kinds as K
use Rattle.encode.specs.Given as G
use Rattle.encode.proofs.Shapes.{as_kind}
use Rattle.encode.proofs.extendedquery.describe.Goals as goal

pub returns : goal.returns
unfolding K.frontend K.describe G.describe
returns c = as_kind c.aim.ensures K.frontend (K.describe).message refl refl
