-- `messages::extendedquery::parse_complete` meets its contract: no field, by its own row.
use mathlib.Core.Path.{◌∙◌}
use Rattle.protocol.specs.Kinds.{typed, parse_complete}
use Rattle.envelope.proofs.Points.{made_as}
use Rattle.messages.proofs.extendedquery.parse_complete.Goals as goal

pub returns : goal.returns
unfolding parse_complete
returns c = c.fieldless.ensures ∙ made_as _ typed parse_complete _
