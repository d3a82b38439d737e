-- `messages::terminate::terminate` meets its contract: no field, by its own row.
use mathlib.Core.Path.{◌∙◌}
use Rattle.protocol.specs.Kinds.{typed, terminate}
use Rattle.envelope.proofs.Points.{made_as}
use Rattle.messages.proofs.terminate.terminate.Goals as goal

pub returns : goal.returns
unfolding terminate
returns c = c.fieldless.ensures ∙ made_as _ typed terminate _
