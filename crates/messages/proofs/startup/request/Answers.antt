-- `messages::startup::request` meets its contract: the envelope, and then nothing.
use Rattle.std.proofs.Common.{[]}
use Rattle.std.proofs.lemmas.Result.{err_from_is_err_and}
use Rattle.protocol.specs.Kinds.{untyped}
use Rattle.envelope.proofs.Points.{done, begin_made, none_made}
use Rattle.messages.proofs.startup.request.Goals as goal

pub returns-in_err-frame : goal.returns-in_err-frame
returns-in_err-frame c =
    let p = err_from_is_err_and c.from_residual.result c.from_residual.ensures.1 in
    rw (p.1, p.2) (none_made c.args.rules untyped c.args.line [] (λ _. c.args.message) c.args.buf.now _ c.in_err-frame.ensures)

pub returns : goal.returns
returns c = done (begin_made c.args.rules untyped c.args.line [] (λ _. c.args.message) _ c.in_ok-frame.ensures) c.finished.ensures
