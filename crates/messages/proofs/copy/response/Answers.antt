-- `messages::copy::response` meets its contract: at each point, what is left to read is what there was at first.
use Rattle.std.proofs.lemmas.Result.{err_from_is_err_and}
use mir.Syntax.{w8}
use Rattle.protocol.specs.Kinds.{typed}
use Rattle.protocol.proofs.Basics.{back}
use Rattle.protocol.proofs.OneByOne.{signed_got, signed_bad}
use Rattle.envelope.proofs.Points.{on, off, done, begin_made, none_made}
use Rattle.messages.specs.Shared.{copy_fields}
use Rattle.messages.proofs.copy.response.Goals as goal

pub returns-in_err-frame : goal.returns-in_err-frame
returns-in_err-frame g c =
    let p = err_from_is_err_and c.from_residual.result c.from_residual.ensures.1 in
    rw (p.1, p.2) (none_made c.args.rules typed c.args.line copy_fields g.R.CopyResponse.makes c.args.buf.now _ c.in_err-frame.ensures)

pub returns-in_default : goal.returns-in_default
returns-in_default g c = rw c.cut.ensures (off (begin_made c.args.rules typed c.args.line copy_fields g.R.CopyResponse.makes _ c.in_ok-frame.ensures) (signed_bad 1 c.in_default.ensures))

pub returns-in_err-column_formats : goal.returns-in_err-column_formats
returns-in_err-column_formats g c =
    let p = err_from_is_err_and c.from_residual-in_err-column_formats.result c.from_residual-in_err-column_formats.ensures.1 in
    rw (p.1, p.2) (off (on (begin_made c.args.rules typed c.args.line copy_fields g.R.CopyResponse.makes _ c.in_ok-frame.ensures) (signed_got 1 c.in-Some.ensures)) c.in_err-column_formats.ensures)

pub returns : goal.returns
returns g c =
    let made = rw c.signed8.ensures at (rw (back w8 c.signed8.result c.signed8.type_inv) at c.message.ensures) in
    done (on (on (begin_made c.args.rules typed c.args.line copy_fields g.R.CopyResponse.makes _ c.in_ok-frame.ensures) (signed_got 1 c.in-Some.ensures)) c.in_ok-column_formats.ensures) (rw made at c.finished.ensures)
