-- `messages::response::command_complete` meets its contract: at each point, what is left to read is what there was at first.
use Rattle.std.proofs.lemmas.Result.{err_from_is_err_and}
use Rattle.protocol.specs.Kinds.{typed, command_complete}
use Rattle.envelope.proofs.Points.{on, off, done, begin, none}
use Rattle.messages.proofs.response.command_complete.Goals as goal

pub returns-in_err-frame : goal.returns-in_err-frame
unfolding command_complete
returns-in_err-frame c =
    let p = err_from_is_err_and c.from_residual.result c.from_residual.ensures.1 in
    rw (p.1, p.2) (none _ typed command_complete c.args.buf.now _ c.in_err-frame.ensures)

pub returns-in_default : goal.returns-in_default
unfolding command_complete
returns-in_default c = rw c.cut.ensures (off (begin _ typed command_complete _ c.in_ok-frame.ensures) c.in_default.ensures)

pub returns : goal.returns
unfolding command_complete
returns c = done (on (begin _ typed command_complete _ c.in_ok-frame.ensures) c.in-Some.ensures) c.finished.ensures
