-- `messages::response::empty_query_response` meets its contract: no field, by its own row.
use mathlib.Core.Path.{◌∙◌}
use Rattle.protocol.specs.Kinds.{typed, empty_query_response}
use Rattle.envelope.proofs.Points.{made_as}
use Rattle.messages.proofs.response.empty_query_response.Goals as goal

pub returns : goal.returns
unfolding empty_query_response
returns c = c.fieldless.ensures ∙ made_as _ typed empty_query_response _
