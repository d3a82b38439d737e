-- `messages::startup::gss_enc_request` meets its contract: no field, by its own row.
use mathlib.Core.Path.{◌∙◌}
use Rattle.protocol.specs.Kinds.{untyped, gss_enc_request}
use Rattle.envelope.proofs.Points.{made_as}
use Rattle.messages.proofs.startup.gss_enc_request.Goals as goal

pub returns : goal.returns
unfolding gss_enc_request
returns c = c.request.ensures ∙ made_as _ untyped gss_enc_request _
