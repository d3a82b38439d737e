-- `encode::simplequery::query` meets its contract.
use mathlib.Core.Path.{refl}
use Rattle.protocol.specs.Each.{able_each}
use Rattle.protocol.specs.Fields.{able, atom_able}
use Rattle.protocol.specs.Kinds as K
use Rattle.encode.specs.Given as G
use Rattle.encode.proofs.Shapes.{as_kind}
use Rattle.encode.proofs.simplequery.query.Goals as goal

pub returns : goal.returns
unfolding K.frontend K.query G.query able_each able atom_able
returns c = as_kind c.one_text.ensures K.frontend (K.query).message refl refl
