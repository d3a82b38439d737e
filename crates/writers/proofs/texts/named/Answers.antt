-- `writers::texts::named` meets its contract.
use mathlib.Core.Path.{refl, ◌∙◌, sym}
use native.Mathlib.Omega.{arith}
use borrow.Author.Tests.{eq-eqb, ne_eqb}
use Rattle.writers.proofs.TextLaws.{named_more, named_end}
use Rattle.writers.proofs.texts.named.Goals as goal

pub returns-then-name-eq0 : goal.returns-then-name-eq0
returns-then-name-eq0 c = sym (sym c.loop-rest.invariant ∙ named_more c.loop-rest.rest.now (omega arith) ∙ rw (eq-eqb _ _ c.if-name-eq0.true) refl)

pub loop-rest-preserved : goal.loop-rest-preserved
loop-rest-preserved c = sym (sym c.loop-rest.invariant ∙ named_more c.loop-rest.rest.now (omega arith) ∙ rw (ne_eqb _ _ c.if-name-eq0.false) refl)

pub returns : goal.returns
returns c = c.is_empty.ensures ∙ sym (named_end c.loop-rest.rest.now (omega arith)) ∙ c.loop-rest.invariant
