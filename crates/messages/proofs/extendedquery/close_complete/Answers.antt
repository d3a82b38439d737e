-- `messages::extendedquery::close_complete` meets its contract: no field, by its own row.
use mathlib.Core.Path.{◌∙◌}
use Rattle.protocol.specs.Kinds.{typed, close_complete}
use Rattle.envelope.proofs.Points.{made_as}
use Rattle.messages.proofs.extendedquery.close_complete.Goals as goal

pub returns : goal.returns
unfolding close_complete
returns c = c.fieldless.ensures ∙ made_as _ typed close_complete _
