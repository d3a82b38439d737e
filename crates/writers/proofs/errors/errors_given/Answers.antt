-- `writers::errors::errors_given` meets its contract.
use mathlib.Core.Path.{◌∙◌, sym}
use borrow.Author.Tests.{ne_eqb}
use Rattle.writers.proofs.ErrorLaws.{errors_differ, errors_same}
use Rattle.writers.proofs.errors.errors_given.Goals as goal

pub returns-then-codes-lengths : goal.returns-then-codes-lengths
returns-then-codes-lengths c = let a = c.args in
    c.texts_given.ensures ∙ sym (errors_same a.codes.now a.lengths.now a.joined.now c.if-codes-lengths.true)

pub returns-else-codes-lengths : goal.returns-else-codes-lengths
returns-else-codes-lengths c = let a = c.args in
    ne_eqb _ _ c.if-codes-lengths.false ∙ sym (errors_differ a.codes.now a.lengths.now a.joined.now c.if-codes-lengths.false)
