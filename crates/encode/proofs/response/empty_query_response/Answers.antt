-- `encode::response::empty_query_response` meets its contract.
use mathlib.Core.Path.{refl}
use Rattle.protocol.specs.Each.{able_each}
use Rattle.protocol.specs.Kinds as K
use Rattle.encode.specs.Given as G
use Rattle.encode.proofs.Shapes.{as_kind}
use Rattle.encode.proofs.response.empty_query_response.Goals as goal

pub returns : goal.returns
unfolding K.frontend K.backend K.empty_query_response G.empty_query_response able_each
returns c = as_kind c.bare.ensures K.backend (K.empty_query_response).message refl refl
