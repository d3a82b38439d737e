-- `row_builder::finish` meets its contract.
use mathlib.Core.Path.{refl, sym, ◌∙◌}
use Rattle.row_builder.specs.Building.{finish_of}
use Rattle.row_builder.proofs.finish.Goals as goal

pub returns-then-stands : goal.returns-then-stands
unfolding finish_of
returns-then-stands c = rw (sym c.stands.ensures ∙ c.if-stands.true) refl

pub returns : goal.returns
unfolding finish_of
returns c = rw (c.at.ensures, sym c.stands.ensures ∙ c.if-stands.false) refl
