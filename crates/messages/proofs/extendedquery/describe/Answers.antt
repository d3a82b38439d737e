-- `messages::extendedquery::describe` meets its contract: the body that its kinds share, by its own row.
use mathlib.Core.Path.{◌∙◌}
use Rattle.protocol.specs.Kinds.{typed, close, describe}
use Rattle.envelope.proofs.Points.{made_as}
use Rattle.messages.proofs.extendedquery.describe.Goals as goal

pub returns : goal.returns
unfolding close describe
returns c = c.aim.ensures ∙ made_as _ typed describe _
