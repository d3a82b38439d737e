-- `messages::extendedquery::parse` meets its contract: at each point, what is left to read is what there was at first.
use Rattle.std.proofs.lemmas.Result.{err_from_is_err_and}
use Rattle.protocol.specs.Kinds.{typed, parse}
use Rattle.envelope.proofs.Points.{on, off, done, begin, none}
use Rattle.messages.proofs.extendedquery.parse.Goals as goal

pub returns-in_err-frame : goal.returns-in_err-frame
unfolding parse
returns-in_err-frame c =
    let p = err_from_is_err_and c.from_residual.result c.from_residual.ensures.1 in
    rw (p.1, p.2) (none _ typed parse c.args.buf.now _ c.in_err-frame.ensures)

pub returns-in_default : goal.returns-in_default
unfolding parse
returns-in_default c = rw c.cut.ensures (off (begin _ typed parse _ c.in_ok-frame.ensures) c.in_default.ensures)

pub returns-in_default-text : goal.returns-in_default-text
unfolding parse
returns-in_default-text c = rw c.cut-in_default-text.ensures (off (on (begin _ typed parse _ c.in_ok-frame.ensures) c.in-Some.ensures) c.in_default-text.ensures)

pub returns-in_err-type_oids : goal.returns-in_err-type_oids
unfolding parse
returns-in_err-type_oids c =
    let p = err_from_is_err_and c.from_residual-in_err-type_oids.result c.from_residual-in_err-type_oids.ensures.1 in
    rw (p.1, p.2) (off (on (on (begin _ typed parse _ c.in_ok-frame.ensures) c.in-Some.ensures) c.in-Some-text.ensures) c.in_err-type_oids.ensures)

pub returns : goal.returns
unfolding parse
returns c = done (on (on (on (begin _ typed parse _ c.in_ok-frame.ensures) c.in-Some.ensures) c.in-Some-text.ensures) c.in_ok-type_oids.ensures) c.finished.ensures
