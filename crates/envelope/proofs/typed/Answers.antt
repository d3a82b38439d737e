-- `envelope::typed` meets its contract: the length word stands behind the type byte.
use Rattle.std.proofs.Common.{length, refl, sym, ◌∙◌}
use Rattle.std.proofs.lemmas.Result.{err_from_is_err_and}
use borrow.Author.Tests.{lt-ltb}
use Rattle.protocol.specs.Kinds.{typed}
use Rattle.protocol.proofs.Numbers.{not_whole}
use Rattle.envelope.specs.Steps.{end_in}
use Rattle.envelope.proofs.Points.{typed_end, ends, frames}
use Rattle.envelope.proofs.typed.Goals as goal

pub returns-in_default : goal.returns-in_default
unfolding end_in
returns-in_default c =
    let short = not_whole 4 c.args.buf.now 1 _ _ (sym c.in_default.ensures) in
    rw (lt-ltb (length c.args.buf.now) 5 short) refl

pub returns-in_err-end : goal.returns-in_err-end
returns-in_err-end c =
    let p = err_from_is_err_and c.from_residual.result c.from_residual.ensures.1 in
    rw (p.1, p.2) (c.in_err-end.ensures ∙ typed_end _ _ _ _ c.in-Some.ensures)

pub slice_bounds-result-end : goal.slice_bounds-result-end
slice_bounds-result-end c = ends typed _ _ (c.in_ok-end.ensures ∙ typed_end _ _ _ _ c.in-Some.ensures)

pub returns : goal.returns
returns c = frames typed _ _ (c.in_ok-end.ensures ∙ typed_end _ _ _ _ c.in-Some.ensures)
