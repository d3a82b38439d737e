-- `host_layout::shapes::bind` meets its contract: the numbers of its row and of its fields.
use mathlib.Core.Path.{refl}
use Rattle.protocol.specs.Kinds.{bind}
use Rattle.protocol.specs.Views.{view}
use Rattle.host_layout.specs.LaidOut.{numbers_of}
use Rattle.host_layout.proofs.shapes.bind.Goals as goal

pub returns : goal.returns
unfolding numbers_of view bind
returns c = refl
