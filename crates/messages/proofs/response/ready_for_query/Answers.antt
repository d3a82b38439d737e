-- `messages::response::ready_for_query` meets its contract: at each point, what is left to read is what there was at first.
use Rattle.std.proofs.Common.{sym, ◌∙◌}
use Rattle.std.proofs.lemmas.Result.{err_from_is_err_and}
use Rattle.protocol.specs.Kinds.{typed, ready_for_query, statuses}
use Rattle.envelope.proofs.Points.{on, off, done, begin, none, one_got, one_not, one_bad}
use Rattle.messages.proofs.response.ready_for_query.Goals as goal

pub returns-in_err-frame : goal.returns-in_err-frame
unfolding ready_for_query
returns-in_err-frame c =
    let p = err_from_is_err_and c.from_residual.result c.from_residual.ensures.1 in
    rw (p.1, p.2) (none _ typed ready_for_query c.args.buf.now _ c.in_err-frame.ensures)

pub returns-in_default : goal.returns-in_default
unfolding ready_for_query
returns-in_default c = rw c.cut.ensures (off (begin _ typed ready_for_query _ c.in_ok-frame.ensures) (one_bad statuses 5 c.in_default.ensures))

pub returns-then-not-is_status : goal.returns-then-not-is_status
unfolding ready_for_query
returns-then-not-is_status c = rw c.at.ensures (off (begin _ typed ready_for_query _ c.in_ok-frame.ensures) (one_not statuses 5 c.in-Some.ensures (sym c.is_status.ensures ∙ c.if-not-is_status.true)))

pub returns : goal.returns
unfolding ready_for_query
returns c = done (on (begin _ typed ready_for_query _ c.in_ok-frame.ensures) (one_got statuses 5 c.in-Some.ensures (sym c.is_status.ensures ∙ c.if-not-is_status.false))) c.finished.ensures
