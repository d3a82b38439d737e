-- `encode::extendedquery::parse_complete` meets its contract.
use mathlib.Core.Path.{refl}
use Rattle.protocol.specs.Each.{able_each}
use Rattle.protocol.specs.Kinds as K
use Rattle.encode.specs.Given as G
use Rattle.encode.proofs.Shapes.{as_kind}
use Rattle.encode.proofs.extendedquery.parse_complete.Goals as goal

pub returns : goal.returns
unfolding K.frontend K.backend K.parse_complete G.parse_complete able_each
returns c = as_kind c.bare.ensures K.backend (K.parse_complete).message refl refl
