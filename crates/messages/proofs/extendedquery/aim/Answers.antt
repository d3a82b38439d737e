-- `messages::extendedquery::aim` meets its contract: at each point, what is left to read is what there was at first.
use Rattle.std.proofs.Common.{sym, ◌∙◌}
use Rattle.std.proofs.lemmas.Result.{err_from_is_err_and}
use Rattle.protocol.specs.Kinds.{typed, targets}
use Rattle.envelope.proofs.Points.{on, off, done, begin_made, none_made, one_got, one_not, one_bad}
use Rattle.messages.specs.Shared.{aim_fields}
use Rattle.messages.proofs.extendedquery.aim.Goals as goal

pub returns-in_err-frame : goal.returns-in_err-frame
returns-in_err-frame g c =
    let p = err_from_is_err_and c.from_residual.result c.from_residual.ensures.1 in
    rw (p.1, p.2) (none_made c.args.rules typed c.args.line aim_fields g.A.Aimed.makes c.args.buf.now _ c.in_err-frame.ensures)

pub returns-in_default : goal.returns-in_default
returns-in_default g c = rw c.cut.ensures (off (begin_made c.args.rules typed c.args.line aim_fields g.A.Aimed.makes _ c.in_ok-frame.ensures) (one_bad targets 5 c.in_default.ensures))

pub returns-then-not-is_target : goal.returns-then-not-is_target
returns-then-not-is_target g c = rw c.at.ensures (off (begin_made c.args.rules typed c.args.line aim_fields g.A.Aimed.makes _ c.in_ok-frame.ensures) (one_not targets 5 c.in-Some.ensures (sym c.is_target.ensures ∙ c.if-not-is_target.true)))

pub returns-in_default-text : goal.returns-in_default-text
returns-in_default-text g c = rw c.cut-in_default-text.ensures (off (on (begin_made c.args.rules typed c.args.line aim_fields g.A.Aimed.makes _ c.in_ok-frame.ensures) (one_got targets 5 c.in-Some.ensures (sym c.is_target.ensures ∙ c.if-not-is_target.false))) c.in_default-text.ensures)

pub returns : goal.returns
returns g c = done (on (on (begin_made c.args.rules typed c.args.line aim_fields g.A.Aimed.makes _ c.in_ok-frame.ensures) (one_got targets 5 c.in-Some.ensures (sym c.is_target.ensures ∙ c.if-not-is_target.false))) c.in-Some-text.ensures) (rw c.message.ensures at c.finished.ensures)
