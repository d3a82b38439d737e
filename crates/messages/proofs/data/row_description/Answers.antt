-- `messages::data::row_description` meets its contract: at each point, what is left to read is what there was at first.
use Rattle.std.proofs.lemmas.Result.{err_from_is_err_and}
use Rattle.protocol.specs.Kinds.{typed, row_description}
use Rattle.envelope.proofs.Points.{on, off, done, begin, none}
use Rattle.messages.proofs.data.row_description.Goals as goal

pub returns-in_err-frame : goal.returns-in_err-frame
unfolding row_description
returns-in_err-frame c =
    let p = err_from_is_err_and c.from_residual.result c.from_residual.ensures.1 in
    rw (p.1, p.2) (none _ typed row_description c.args.buf.now _ c.in_err-frame.ensures)

pub returns-in_err-fields : goal.returns-in_err-fields
unfolding row_description
returns-in_err-fields c =
    let p = err_from_is_err_and c.from_residual-in_err-fields.result c.from_residual-in_err-fields.ensures.1 in
    rw (p.1, p.2) (off (begin _ typed row_description _ c.in_ok-frame.ensures) c.in_err-fields.ensures)

pub returns : goal.returns
unfolding row_description
returns c = done (on (begin _ typed row_description _ c.in_ok-frame.ensures) c.in_ok-fields.ensures) c.finished.ensures
