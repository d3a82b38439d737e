-- `messages::extendedquery::portal_suspended` meets its contract: no field, by its own row.
use mathlib.Core.Path.{◌∙◌}
use Rattle.protocol.specs.Kinds.{typed, portal_suspended}
use Rattle.envelope.proofs.Points.{made_as}
use Rattle.messages.proofs.extendedquery.portal_suspended.Goals as goal

pub returns : goal.returns
unfolding portal_suspended
returns c = c.fieldless.ensures ∙ made_as _ typed portal_suspended _
