-- `host_parts::elements::tusweram_field` meets its contract: what the step answers, laid out.
use mathlib.Core.Path.{ap, ◌∙◌}
use Rattle.host_parts.specs.Reads.{field_out}
use Rattle.host_parts.proofs.elements.tusweram_field.Goals as goal

pub returns-in-Ok : goal.returns-in-Ok
unfolding field_out
returns-in-Ok c = c.field.ensures ∙ ap field_out c.in-Ok.ensures

pub returns-in-Err : goal.returns-in-Err
unfolding field_out
returns-in-Err c = c.refusal.ensures ∙ ap field_out c.in-Err.ensures
