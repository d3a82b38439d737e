-- `messages::copy::copy_fail` meets its contract: at each point, what is left to read is what there was at first.
use Rattle.std.proofs.lemmas.Result.{err_from_is_err_and}
use Rattle.protocol.specs.Kinds.{typed, copy_fail}
use Rattle.envelope.proofs.Points.{on, off, done, begin, none}
use Rattle.messages.proofs.copy.copy_fail.Goals as goal

pub returns-in_err-frame : goal.returns-in_err-frame
unfolding copy_fail
returns-in_err-frame c =
    let p = err_from_is_err_and c.from_residual.result c.from_residual.ensures.1 in
    rw (p.1, p.2) (none _ typed copy_fail c.args.buf.now _ c.in_err-frame.ensures)

pub returns-in_default : goal.returns-in_default
unfolding copy_fail
returns-in_default c = rw c.cut.ensures (off (begin _ typed copy_fail _ c.in_ok-frame.ensures) c.in_default.ensures)

pub returns : goal.returns
unfolding copy_fail
returns c = done (on (begin _ typed copy_fail _ c.in_ok-frame.ensures) c.in-Some.ensures) c.finished.ensures
