-- `messages::data::no_data` meets its contract: no field, by its own row.
use mathlib.Core.Path.{◌∙◌}
use Rattle.protocol.specs.Kinds.{typed, no_data}
use Rattle.envelope.proofs.Points.{made_as}
use Rattle.messages.proofs.data.no_data.Goals as goal

pub returns : goal.returns
unfolding no_data
returns c = c.fieldless.ensures ∙ made_as _ typed no_data _
