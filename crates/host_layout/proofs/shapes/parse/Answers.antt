-- `host_layout::shapes::parse` meets its contract: the numbers of its row and of its fields.
use mathlib.Core.Path.{refl}
use Rattle.protocol.specs.Kinds.{parse}
use Rattle.protocol.specs.Views.{view}
use Rattle.host_layout.specs.LaidOut.{numbers_of}
use Rattle.host_layout.proofs.shapes.parse.Goals as goal

pub returns : goal.returns
unfolding numbers_of view parse
returns c = refl
