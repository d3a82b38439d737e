-- `messages::copy::copy_data` meets its contract: at each point, what is left to read is what there was at first.
use Rattle.std.proofs.lemmas.Result.{err_from_is_err_and}
use Rattle.protocol.specs.Kinds.{typed, copy_data}
use Rattle.envelope.proofs.Points.{on, done, begin, none}
use Rattle.messages.proofs.copy.copy_data.Goals as goal

pub returns-in_err-frame : goal.returns-in_err-frame
unfolding copy_data
returns-in_err-frame c =
    let p = err_from_is_err_and c.from_residual.result c.from_residual.ensures.1 in
    rw (p.1, p.2) (none _ typed copy_data c.args.buf.now _ c.in_err-frame.ensures)

pub returns : goal.returns
unfolding copy_data
returns c = done (on (begin _ typed copy_data _ c.in_ok-frame.ensures) c.rest-data.ensures) c.finished.ensures
