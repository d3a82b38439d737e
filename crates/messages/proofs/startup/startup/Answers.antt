-- `messages::startup::startup` meets its contract: at each point, what is left to read is what there was at first.
use Rattle.std.proofs.lemmas.Result.{err_from_is_err_and}
use Rattle.protocol.specs.Kinds.{untyped, startup}
use Rattle.envelope.proofs.Points.{on, off, done, begin, none}
use Rattle.messages.proofs.startup.startup.Goals as goal

pub returns-in_err-frame : goal.returns-in_err-frame
unfolding startup
returns-in_err-frame c =
    let p = err_from_is_err_and c.from_residual.result c.from_residual.ensures.1 in
    rw (p.1, p.2) (none _ untyped startup c.args.buf.now _ c.in_err-frame.ensures)

pub returns-in_err-parameters : goal.returns-in_err-parameters
unfolding startup
returns-in_err-parameters c =
    let p = err_from_is_err_and c.from_residual-in_err-parameters.result c.from_residual-in_err-parameters.ensures.1 in
    rw (p.1, p.2) (off (begin _ untyped startup _ c.in_ok-frame.ensures) c.in_err-parameters.ensures)

pub returns : goal.returns
unfolding startup
returns c = done (on (begin _ untyped startup _ c.in_ok-frame.ensures) c.in_ok-parameters.ensures) c.finished.ensures
