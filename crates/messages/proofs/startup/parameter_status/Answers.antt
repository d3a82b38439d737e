-- `messages::startup::parameter_status` meets its contract: at each point, what is left to read is what there was at first.
use Rattle.std.proofs.lemmas.Result.{err_from_is_err_and}
use Rattle.protocol.specs.Kinds.{typed, parameter_status}
use Rattle.envelope.proofs.Points.{on, off, done, begin, none}
use Rattle.messages.proofs.startup.parameter_status.Goals as goal

pub returns-in_err-frame : goal.returns-in_err-frame
unfolding parameter_status
returns-in_err-frame c =
    let p = err_from_is_err_and c.from_residual.result c.from_residual.ensures.1 in
    rw (p.1, p.2) (none _ typed parameter_status c.args.buf.now _ c.in_err-frame.ensures)

pub returns-in_default : goal.returns-in_default
unfolding parameter_status
returns-in_default c = rw c.cut.ensures (off (begin _ typed parameter_status _ c.in_ok-frame.ensures) c.in_default.ensures)

pub returns-in_default-text : goal.returns-in_default-text
unfolding parameter_status
returns-in_default-text c = rw c.cut-in_default-text.ensures (off (on (begin _ typed parameter_status _ c.in_ok-frame.ensures) c.in-Some.ensures) c.in_default-text.ensures)

pub returns : goal.returns
unfolding parameter_status
returns c = done (on (on (begin _ typed parameter_status _ c.in_ok-frame.ensures) c.in-Some.ensures) c.in-Some-text.ensures) c.finished.ensures
