-- `messages::data::data_row` meets its contract: at each point, what is left to read is what there was at first.
use Rattle.std.proofs.lemmas.Result.{err_from_is_err_and}
use Rattle.protocol.specs.Kinds.{typed, data_row}
use Rattle.envelope.proofs.Points.{on, off, done, begin, none}
use Rattle.messages.proofs.data.data_row.Goals as goal

pub returns-in_err-frame : goal.returns-in_err-frame
unfolding data_row
returns-in_err-frame c =
    let p = err_from_is_err_and c.from_residual.result c.from_residual.ensures.1 in
    rw (p.1, p.2) (none _ typed data_row c.args.buf.now _ c.in_err-frame.ensures)

pub returns-in_err-data : goal.returns-in_err-data
unfolding data_row
returns-in_err-data c =
    let p = err_from_is_err_and c.from_residual-in_err-data.result c.from_residual-in_err-data.ensures.1 in
    rw (p.1, p.2) (off (begin _ typed data_row _ c.in_ok-frame.ensures) c.in_err-data.ensures)

pub returns : goal.returns
unfolding data_row
returns c = done (on (begin _ typed data_row _ c.in_ok-frame.ensures) c.in_ok-data.ensures) c.finished.ensures
