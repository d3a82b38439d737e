-- `messages::startup::ssl_request` meets its contract: no field, by its own row.
use mathlib.Core.Path.{◌∙◌}
use Rattle.protocol.specs.Kinds.{untyped, ssl_request}
use Rattle.envelope.proofs.Points.{made_as}
use Rattle.messages.proofs.startup.ssl_request.Goals as goal

pub returns : goal.returns
unfolding ssl_request
returns c = c.request.ensures ∙ made_as _ untyped ssl_request _
