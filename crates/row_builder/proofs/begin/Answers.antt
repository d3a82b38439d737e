-- `row_builder::begin` meets its contract: the room for an empty row, and its head.
use mathlib.Core.Path.{refl, sym}
use Rattle.std.proofs.lemmas.Result.{err_from_is_err_and}
use Rattle.row_builder.specs.Building.{begin_of, built_by}
use Rattle.row_builder.proofs.Rows.{begins, begun_is, done, refused}
use Rattle.row_builder.proofs.begin.Goals as goal

pub returns-in_err-size : goal.returns-in_err-size
unfolding begin_of built_by
returns-in_err-size c =
    let p = err_from_is_err_and c.from_residual.result c.from_residual.ensures.1 in
    rw (p.1, p.2) (refused 0 _ _ (begins _ c.in_err-size.ensures))

pub put_at_start-requires : goal.put_at_start-requires
unfolding begin_of built_by
put_at_start-requires c = let f = begun_is _ _ (sym (begins _ c.in_ok-size.ensures)) in
    (f.some, f.within, f.small, f.few)

pub returns : goal.returns
unfolding begin_of built_by
returns c = done 0 _ _ (begins _ c.in_ok-size.ensures) refl c.put_at_start.ensures
