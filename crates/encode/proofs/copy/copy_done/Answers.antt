-- `encode::copy::copy_done` meets its contract.
use mathlib.Core.Path.{refl}
use Rattle.protocol.specs.Each.{able_each}
use Rattle.protocol.specs.Kinds as K
use Rattle.encode.specs.Given as G
use Rattle.encode.proofs.Shapes.{as_kind}
use Rattle.encode.proofs.copy.copy_done.Goals as goal

pub returns : goal.returns
unfolding K.frontend K.backend K.copy_done G.copy_done able_each
returns c = let e = c.bare.ensures in record { from_frontend = as_kind e K.frontend (K.copy_done).message refl refl; from_backend = as_kind e K.backend (K.copy_done).message refl refl }
