-- `encode::extendedquery::flush` meets its contract.
use mathlib.Core.Path.{refl}
use Rattle.protocol.specs.Kinds as K
use Rattle.encode.specs.Given as G
use Rattle.encode.proofs.Shapes.{as_kind}
use Rattle.encode.proofs.extendedquery.flush.Goals as goal

pub returns : goal.returns
unfolding K.frontend K.flush G.flush
returns c = as_kind c.bare.ensures K.frontend (K.flush).message refl refl
