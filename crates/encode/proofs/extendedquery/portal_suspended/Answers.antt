-- `encode::extendedquery::portal_suspended` meets its contract.
use mathlib.Core.Path.{refl}
use Rattle.protocol.specs.Each.{able_each}
use Rattle.protocol.specs.Kinds as K
use Rattle.encode.specs.Given as G
use Rattle.encode.proofs.Shapes.{as_kind}
use Rattle.encode.proofs.extendedquery.portal_suspended.Goals as goal

pub returns : goal.returns
unfolding K.frontend K.backend K.portal_suspended G.portal_suspended able_each
returns c = as_kind c.bare.ensures K.backend (K.portal_suspended).message refl refl
