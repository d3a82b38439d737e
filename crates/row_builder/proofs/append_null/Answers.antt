-- `row_builder::append_null` meets its contract, as `append` does.
use mathlib.Core.Path.{sym}
use Rattle.std.proofs.lemmas.Result.{err_from_is_err_and}
use Rattle.protocol.specs.Bytes.{bits_of}
use Rattle.protocol.specs.Fields.{value_bytes}
use Rattle.row_builder.proofs.Rows.{column, done, grown_is, head_fits, null_long, refused}
use Rattle.row_builder.proofs.append_null.Goals as goal

pub returns-in_err-next : goal.returns-in_err-next
returns-in_err-next c =
    let p = err_from_is_err_and c.from_residual.result c.from_residual.ensures.1 in
    rw (p.1, p.2) (refused _ _ _ (rw (null_long) c.in_err-next.ensures))

pub put_at_start-requires : goal.put_at_start-requires
put_at_start-requires c = head_fits (grown_is _ _ _ _ (sym c.in_ok-next.ensures)) c.put_word.ensures

pub returns : goal.returns
unfolding value_bytes bits_of
returns c = done _ _ _ (rw (null_long) c.in_ok-next.ensures) (column (grown_is _ _ _ _ (sym c.in_ok-next.ensures)) c.put_word.ensures) c.put_at_start.ensures
