-- `envelope::untyped` meets its contract: the length word stands first, before a code.
use Rattle.std.proofs.Common.{length, refl, sym, ◌∙◌, arith}
use Rattle.std.proofs.lemmas.Result.{err_from_is_err_and}
use borrow.Author.Tests.{lt-ltb}
use Rattle.protocol.specs.Kinds.{untyped}
use Rattle.protocol.proofs.Numbers.{not_whole}
use Rattle.envelope.specs.Steps.{end_in}
use Rattle.envelope.proofs.Points.{untyped_end, ends, frames}
use Rattle.envelope.proofs.untyped.Goals as goal

pub returns-in_default : goal.returns-in_default
unfolding end_in
returns-in_default c =
    let short = not_whole 4 c.args.buf.now 0 _ _ (sym c.in_default.ensures) in
    rw (lt-ltb (length c.args.buf.now) 8 (omega (arith, short))) refl

pub returns-in_err-end : goal.returns-in_err-end
returns-in_err-end c =
    let p = err_from_is_err_and c.from_residual.result c.from_residual.ensures.1 in
    rw (p.1, p.2) (c.in_err-end.ensures ∙ untyped_end _ _ _ _ c.if-buf-lt-UNTYPED_BODY.false c.in-Some.ensures)

pub slice_bounds-result-end : goal.slice_bounds-result-end
slice_bounds-result-end c = ends untyped _ _ (c.in_ok-end.ensures ∙ untyped_end _ _ _ _ c.if-buf-lt-UNTYPED_BODY.false c.in-Some.ensures)

pub returns : goal.returns
returns c = frames untyped _ _ (c.in_ok-end.ensures ∙ untyped_end _ _ _ _ c.if-buf-lt-UNTYPED_BODY.false c.in-Some.ensures)

pub returns-then-buf-lt-UNTYPED_BODY : goal.returns-then-buf-lt-UNTYPED_BODY
unfolding end_in
returns-then-buf-lt-UNTYPED_BODY c = rw (lt-ltb _ _ c.if-buf-lt-UNTYPED_BODY.true) refl
