-- `host_parts::elements::tusweram_error_field` meets its contract: what the step answers, laid out.
use mathlib.Core.Path.{ap, ◌∙◌}
use Rattle.host_parts.specs.Reads.{error_field_out}
use Rattle.host_parts.proofs.elements.tusweram_error_field.Goals as goal

pub returns-in-Ok : goal.returns-in-Ok
unfolding error_field_out
returns-in-Ok c = c.target.ensures ∙ ap error_field_out c.in-Ok.ensures

pub returns-in-Err : goal.returns-in-Err
unfolding error_field_out
returns-in-Err c = c.refusal.ensures ∙ ap error_field_out c.in-Err.ensures
