-- `row_builder::Row::last_column` meets its contract: the head, and then the columns.
use mathlib.Core.Path.{refl, sym, ◌∙◌}
use native.Mathlib.Omega.{arith}
use lib.Seq.{length-take-le}
use Rattle.row_builder.specs.Steps.{last_column_of}
use Rattle.row_builder.proofs.Heads.{column_is}
use Rattle.row_builder.proofs.Standing.{headed_fits, stands_is}
use Rattle.row_builder.proofs.Row.last_column.Goals as goal

pub slice_bounds-frame-end : goal.slice_bounds-frame-end
slice_bounds-frame-end c = sym (length-take-le _ _ (headed_fits _ _ (sym c.headed.ensures ∙ c.if-headed.true)).within)

pub returns-then-self-eq0 : goal.returns-then-self-eq0
returns-then-self-eq0 c = c.walked.ensures ∙ column_is _ _ 0 0 (sym c.headed.ensures ∙ c.if-headed.true) (omega (arith, c.if-self-eq0.true)) (omega (arith, c.if-self-eq0.true))

pub returns-then-headed : goal.returns-then-headed
returns-then-headed c = c.walked-then-headed.ensures ∙ column_is _ _ _ 1 (sym c.headed.ensures ∙ c.if-headed.true) (omega (arith, c.if-self-eq0.false)) refl

pub returns : goal.returns
unfolding last_column_of
returns c = rw (stands_is, sym c.headed.ensures ∙ c.if-headed.false) refl
