-- `messages::extendedquery::flush` meets its contract: no field, by its own row.
use mathlib.Core.Path.{◌∙◌}
use Rattle.protocol.specs.Kinds.{typed, flush}
use Rattle.envelope.proofs.Points.{made_as}
use Rattle.messages.proofs.extendedquery.flush.Goals as goal

pub returns : goal.returns
unfolding flush
returns c = c.fieldless.ensures ∙ made_as _ typed flush _
