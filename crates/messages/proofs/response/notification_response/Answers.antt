-- `messages::response::notification_response` meets its contract: at each point, what is left to read is what there was at first.
use Rattle.std.proofs.lemmas.Result.{err_from_is_err_and}
use mir.Syntax.{w32}
use Rattle.protocol.specs.Kinds.{typed, notification_response}
use Rattle.protocol.proofs.Basics.{back}
use Rattle.protocol.proofs.OneByOne.{signed_got, signed_bad}
use Rattle.envelope.proofs.Points.{on, off, done, begin, none}
use Rattle.messages.proofs.response.notification_response.Goals as goal

pub returns-in_err-frame : goal.returns-in_err-frame
unfolding notification_response
returns-in_err-frame c =
    let p = err_from_is_err_and c.from_residual.result c.from_residual.ensures.1 in
    rw (p.1, p.2) (none _ typed notification_response c.args.buf.now _ c.in_err-frame.ensures)

pub returns-in_default : goal.returns-in_default
unfolding notification_response
returns-in_default c = rw c.cut.ensures (off (begin _ typed notification_response _ c.in_ok-frame.ensures) (signed_bad 4 c.in_default.ensures))

pub returns-in_default-text : goal.returns-in_default-text
unfolding notification_response
returns-in_default-text c = rw c.cut-in_default-text.ensures (off (on (begin _ typed notification_response _ c.in_ok-frame.ensures) (signed_got 4 c.in-Some.ensures)) c.in_default-text.ensures)

pub returns-in_default-text-2 : goal.returns-in_default-text-2
unfolding notification_response
returns-in_default-text-2 c = rw c.cut-in_default-text-2.ensures (off (on (on (begin _ typed notification_response _ c.in_ok-frame.ensures) (signed_got 4 c.in-Some.ensures)) c.in-Some-text.ensures) c.in_default-text-2.ensures)

pub returns : goal.returns
unfolding notification_response
returns c = done (on (on (on (begin _ typed notification_response _ c.in_ok-frame.ensures) (signed_got 4 c.in-Some.ensures)) c.in-Some-text.ensures) c.in-Some-text-2.ensures) (rw c.signed32.ensures at (rw (back w32 c.signed32.result c.signed32.type_inv) at c.finished.ensures))
