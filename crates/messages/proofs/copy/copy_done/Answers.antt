-- `messages::copy::copy_done` meets its contract: no field, by its own row.
use mathlib.Core.Path.{◌∙◌}
use Rattle.protocol.specs.Kinds.{typed, copy_done}
use Rattle.envelope.proofs.Points.{made_as}
use Rattle.messages.proofs.copy.copy_done.Goals as goal

pub returns : goal.returns
unfolding copy_done
returns c = c.fieldless.ensures ∙ made_as _ typed copy_done _
