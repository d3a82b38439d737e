-- `messages::data::parameter_description` meets its contract: at each point, what is left to read is what there was at first.
use Rattle.std.proofs.lemmas.Result.{err_from_is_err_and}
use Rattle.protocol.specs.Kinds.{typed, parameter_description}
use Rattle.envelope.proofs.Points.{on, off, done, begin, none}
use Rattle.messages.proofs.data.parameter_description.Goals as goal

pub returns-in_err-frame : goal.returns-in_err-frame
unfolding parameter_description
returns-in_err-frame c =
    let p = err_from_is_err_and c.from_residual.result c.from_residual.ensures.1 in
    rw (p.1, p.2) (none _ typed parameter_description c.args.buf.now _ c.in_err-frame.ensures)

pub returns-in_err-types : goal.returns-in_err-types
unfolding parameter_description
returns-in_err-types c =
    let p = err_from_is_err_and c.from_residual-in_err-types.result c.from_residual-in_err-types.ensures.1 in
    rw (p.1, p.2) (off (begin _ typed parameter_description _ c.in_ok-frame.ensures) c.in_err-types.ensures)

pub returns : goal.returns
unfolding parameter_description
returns c = done (on (begin _ typed parameter_description _ c.in_ok-frame.ensures) c.in_ok-types.ensures) c.finished.ensures
