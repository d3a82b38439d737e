-- `messages::simplequery::query` meets its contract: at each point, what is left to read is what there was at first.
use Rattle.std.proofs.lemmas.Result.{err_from_is_err_and}
use Rattle.protocol.specs.Kinds.{typed, query}
use Rattle.envelope.proofs.Points.{on, off, done, begin, none}
use Rattle.messages.proofs.simplequery.query.Goals as goal

pub returns-in_err-frame : goal.returns-in_err-frame
unfolding query
returns-in_err-frame c =
    let p = err_from_is_err_and c.from_residual.result c.from_residual.ensures.1 in
    rw (p.1, p.2) (none _ typed query c.args.buf.now _ c.in_err-frame.ensures)

pub returns-in_default : goal.returns-in_default
unfolding query
returns-in_default c = rw c.cut.ensures (off (begin _ typed query _ c.in_ok-frame.ensures) c.in_default.ensures)

pub returns : goal.returns
unfolding query
returns c = done (on (begin _ typed query _ c.in_ok-frame.ensures) c.in-Some.ensures) c.finished.ensures
