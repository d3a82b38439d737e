-- `messages::extendedquery::sync` meets its contract: no field, by its own row.
use mathlib.Core.Path.{◌∙◌}
use Rattle.protocol.specs.Kinds.{typed, sync}
use Rattle.envelope.proofs.Points.{made_as}
use Rattle.messages.proofs.extendedquery.sync.Goals as goal

pub returns : goal.returns
unfolding sync
returns c = c.fieldless.ensures ∙ made_as _ typed sync _
