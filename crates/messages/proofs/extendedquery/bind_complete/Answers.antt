-- `messages::extendedquery::bind_complete` meets its contract: no field, by its own row.
use mathlib.Core.Path.{◌∙◌}
use Rattle.protocol.specs.Kinds.{typed, bind_complete}
use Rattle.envelope.proofs.Points.{made_as}
use Rattle.messages.proofs.extendedquery.bind_complete.Goals as goal

pub returns : goal.returns
unfolding bind_complete
returns c = c.fieldless.ensures ∙ made_as _ typed bind_complete _
