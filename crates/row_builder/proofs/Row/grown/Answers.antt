-- `row_builder::Row::grown` meets its contract: the room is looked at first, and then the sizes.
use mathlib.Core.Path.{refl, sym, ◌∙◌}
use native.Mathlib.Omega.{arith}
use Rattle.std.proofs.lemmas.Result.{err_from_is_err_and}
use Rattle.protocol.specs.Kinds.{data_row}
use Rattle.protocol.proofs.Basics.{and_left}
use Rattle.writers.specs.Writing.{verdict_of}
use Rattle.row_builder.specs.Building.{built_by, grow_of}
use Rattle.row_builder.proofs.Standing.{Fits, fits}
use Rattle.row_builder.proofs.Row.grown.Goals as goal

pub overflow_sub-self : goal.overflow_sub-self
overflow_sub-self c =
    let stood : Fits c.args.self c.args.room.now = fits _ _ (sym c.stands.ensures ∙ and_left _ _ c.if-not-able.false) in
    omega (arith, stood.some)

pub overflow_add-self : goal.overflow_add-self
overflow_add-self c =
    let stood : Fits c.args.self c.args.room.now = fits _ _ (sym c.stands.ensures ∙ and_left _ _ c.if-not-able.false) in
    omega (arith, stood.small, c.requires)

pub returns-in_err-size : goal.returns-in_err-size
unfolding grow_of data_row built_by
returns-in_err-size c =
    let p = err_from_is_err_and c.from_residual.result c.from_residual.ensures.1 in
    rw (p.1, p.2, ← c.stands.ensures, ← c.in_err-size.ensures) refl

pub returns : goal.returns
unfolding grow_of data_row built_by
returns c = rw (← c.stands.ensures, ← c.in_ok-size.ensures) refl

pub returns-then-not-able : goal.returns-then-not-able
unfolding grow_of verdict_of built_by
returns-then-not-able c = rw (c.at.ensures, ← c.stands.ensures, c.if-not-able.true) refl
