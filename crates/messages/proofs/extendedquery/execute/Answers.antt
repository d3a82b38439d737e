-- `messages::extendedquery::execute` meets its contract: at each point, what is left to read is what there was at first.
use Rattle.std.proofs.lemmas.Result.{err_from_is_err_and}
use mir.Syntax.{w32}
use Rattle.protocol.specs.Kinds.{typed, execute}
use Rattle.protocol.proofs.Basics.{back}
use Rattle.protocol.proofs.OneByOne.{signed_got, signed_bad}
use Rattle.envelope.proofs.Points.{on, off, done, begin, none}
use Rattle.messages.proofs.extendedquery.execute.Goals as goal

pub returns-in_err-frame : goal.returns-in_err-frame
unfolding execute
returns-in_err-frame c =
    let p = err_from_is_err_and c.from_residual.result c.from_residual.ensures.1 in
    rw (p.1, p.2) (none _ typed execute c.args.buf.now _ c.in_err-frame.ensures)

pub returns-in_default : goal.returns-in_default
unfolding execute
returns-in_default c = rw c.cut.ensures (off (begin _ typed execute _ c.in_ok-frame.ensures) c.in_default.ensures)

pub returns-in_default-word : goal.returns-in_default-word
unfolding execute
returns-in_default-word c = rw c.cut-in_default-word.ensures (off (on (begin _ typed execute _ c.in_ok-frame.ensures) c.in-Some.ensures) (signed_bad 4 c.in_default-word.ensures))

pub returns : goal.returns
unfolding execute
returns c = done (on (on (begin _ typed execute _ c.in_ok-frame.ensures) c.in-Some.ensures) (signed_got 4 c.in-Some-word.ensures)) (rw c.signed32.ensures at (rw (back w32 c.signed32.result c.signed32.type_inv) at c.finished.ensures))
