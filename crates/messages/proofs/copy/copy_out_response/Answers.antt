-- `messages::copy::copy_out_response` meets its contract: the body that its kinds share, by its own row.
use mathlib.Core.Path.{◌∙◌}
use Rattle.protocol.specs.Kinds.{typed, copy_in_response, copy_out_response, copy_both_response}
use Rattle.envelope.proofs.Points.{made_as}
use Rattle.messages.proofs.copy.copy_out_response.Goals as goal

pub returns : goal.returns
unfolding copy_in_response copy_out_response copy_both_response
returns c = c.response.ensures ∙ made_as _ typed copy_out_response _
