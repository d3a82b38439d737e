-- `host_parts::elements::tusweram_element` meets its contract: what the element call answers, laid out.
use mathlib.Core.Path.{ap, ◌∙◌}
use Rattle.host_layout.specs.LaidOut.{element_out}
use Rattle.host_layout.proofs.Unread.{no_element_out}
use Rattle.host_parts.proofs.elements.tusweram_element.Goals as goal

pub returns-in-Ok : goal.returns-in-Ok
unfolding element_out
returns-in-Ok c = c.laid_out.ensures ∙ ap element_out c.in-Ok.ensures

pub returns-in-Err : goal.returns-in-Err
returns-in-Err c = no_element_out _ c.unread.ensures ∙ ap element_out c.in-Err.ensures
