-- `host_parts::elements::tusweram_pair` meets its contract: what the step answers, laid out.
use mathlib.Core.Path.{ap, ◌∙◌}
use Rattle.host_parts.specs.Reads.{pair_out}
use Rattle.host_parts.proofs.elements.tusweram_pair.Goals as goal

pub returns-in-Ok : goal.returns-in-Ok
unfolding pair_out
returns-in-Ok c = c.two_spans.ensures ∙ ap pair_out c.in-Ok.ensures

pub returns-in-Err : goal.returns-in-Err
unfolding pair_out
returns-in-Err c = c.refusal.ensures ∙ ap pair_out c.in-Err.ensures
