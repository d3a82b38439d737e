-- `encode::terminate::terminate` meets its contract.
use mathlib.Core.Path.{refl}
use Rattle.protocol.specs.Each.{able_each}
use Rattle.protocol.specs.Kinds as K
use Rattle.encode.specs.Given as G
use Rattle.encode.proofs.Shapes.{as_kind}
use Rattle.encode.proofs.terminate.terminate.Goals as goal

pub returns : goal.returns
unfolding K.frontend K.terminate G.terminate able_each
returns c = as_kind c.bare.ensures K.frontend (K.terminate).message refl refl
