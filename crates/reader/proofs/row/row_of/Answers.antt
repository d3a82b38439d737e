-- `reader::row::row_of` meets its contract: what decoding answers, of a row.
use Rattle.std.proofs.lemmas.Result.{err_from_is_err_and}
use Rattle.reader.specs.Row.{row_by}
use Rattle.reader.proofs.RowRoom.{unread}
use Rattle.reader.proofs.row.row_of.Goals as goal

pub returns-in_err-message : goal.returns-in_err-message
returns-in_err-message c =
    let p = err_from_is_err_and c.from_residual.result c.from_residual.ensures.1 in
    rw (p.1, p.2, ← c.in_err-message.ensures) (unread _ _ _)

pub returns-in_err-list : goal.returns-in_err-list
unfolding row_by
returns-in_err-list c =
    let p = err_from_is_err_and c.from_residual-in_err-list.result c.from_residual-in_err-list.ensures.1 in
    rw (p.1, p.2, ← c.in_ok-message.ensures) (c.in_err-list.ensures _)

pub returns : goal.returns
unfolding row_by
returns c = rw (← c.in_ok-message.ensures) (c.in_ok-list.ensures _)
