-- `row_builder::append` meets its contract: the longer row first, then its last column, then its head.
use mathlib.Core.Path.{sym}
use native.Mathlib.Omega.{arith}
use Rattle.std.proofs.lemmas.Result.{err_from_is_err_and}
use Rattle.protocol.specs.Fields.{value_bytes}
use Rattle.row_builder.proofs.Rows.{column, done, grown_is, head_fits, refused, value_long}
use Rattle.row_builder.proofs.append.Goals as goal

pub returns-in_err-next : goal.returns-in_err-next
returns-in_err-next c =
    let p = err_from_is_err_and c.from_residual.result c.from_residual.ensures.1 in
    rw (p.1, p.2) (refused _ _ _ (rw (value_long c.args.value.now) c.in_err-next.ensures))

pub overflow_cast-value : goal.overflow_cast-value
overflow_cast-value c =
    let g = grown_is _ _ _ _ (sym c.in_ok-next.ensures) in
    omega (arith, g.size, g.fits.small)

pub put_at_start-requires : goal.put_at_start-requires
put_at_start-requires c = head_fits (grown_is _ _ _ _ (sym c.in_ok-next.ensures)) c.put_value.ensures

pub returns : goal.returns
unfolding value_bytes
returns c = done _ _ _ (rw (value_long c.args.value.now) c.in_ok-next.ensures) (column (grown_is _ _ _ _ (sym c.in_ok-next.ensures)) c.put_value.ensures) c.put_at_start.ensures
