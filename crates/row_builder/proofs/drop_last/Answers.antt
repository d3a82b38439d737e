-- `row_builder::drop_last` meets its contract: the shorter row, and its head.
use mathlib.Core.Path.{refl, sym}
use Rattle.std.proofs.lemmas.Result.{err_from_is_err_and}
use Rattle.row_builder.proofs.Rows.{done, dropped_is, refused}
use Rattle.row_builder.proofs.drop_last.Goals as goal

pub returns-in_err-next : goal.returns-in_err-next
returns-in_err-next c =
    let p = err_from_is_err_and c.from_residual.result c.from_residual.ensures.1 in
    rw (p.1, p.2) (refused 0 _ _ c.in_err-next.ensures)

pub put_at_start-requires : goal.put_at_start-requires
put_at_start-requires c = let f = dropped_is _ _ _ (sym c.in_ok-next.ensures) in
    (f.some, f.within, f.small, f.few)

pub returns : goal.returns
returns c = done 0 _ _ c.in_ok-next.ensures refl c.put_at_start.ensures
