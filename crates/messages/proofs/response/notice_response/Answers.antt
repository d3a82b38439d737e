-- `messages::response::notice_response` meets its contract: at each point, what is left to read is what there was at first.
use Rattle.std.proofs.lemmas.Result.{err_from_is_err_and}
use Rattle.protocol.specs.Kinds.{typed, notice_response}
use Rattle.envelope.proofs.Points.{on, off, done, begin, none}
use Rattle.messages.proofs.response.notice_response.Goals as goal

pub returns-in_err-frame : goal.returns-in_err-frame
unfolding notice_response
returns-in_err-frame c =
    let p = err_from_is_err_and c.from_residual.result c.from_residual.ensures.1 in
    rw (p.1, p.2) (none _ typed notice_response c.args.buf.now _ c.in_err-frame.ensures)

pub returns-in_err-fields : goal.returns-in_err-fields
unfolding notice_response
returns-in_err-fields c =
    let p = err_from_is_err_and c.from_residual-in_err-fields.result c.from_residual-in_err-fields.ensures.1 in
    rw (p.1, p.2) (off (begin _ typed notice_response _ c.in_ok-frame.ensures) c.in_err-fields.ensures)

pub returns : goal.returns
unfolding notice_response
returns c = done (on (begin _ typed notice_response _ c.in_ok-frame.ensures) c.in_ok-fields.ensures) c.finished.ensures
