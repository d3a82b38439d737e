-- `row_fields::begin` meets its contract.
use mathlib.Core.Path.{◌≡◌, refl, ◌∙◌, sym}
use native.Mathlib.Omega.{arith}
use lib.ListN.{length}
use Rattle.std.proofs.lemmas.Result.{err_from_is_err_and}
use Rattle.protocol.specs.Bytes.{be}
use Rattle.protocol.specs.Encoded as N
use Rattle.protocol.specs.Kinds.{row_description}
use Rattle.writers.specs.Writing.{write}
use Rattle.writers.proofs.Puts.{headed}
use Rattle.row_fields.specs.Passes.{answered, begun}
use Rattle.row_fields.proofs.Roomy.{roomy_of}
use Rattle.row_fields.proofs.begin.Goals as goal

pub returns-in_err-n : goal.returns-in_err-n
unfolding begun
returns-in_err-n c =
    let p = err_from_is_err_and c.from_residual.result c.from_residual.ensures.1 in
    rw (p.1, p.2) (rw (← c.plus-size.ensures) c.in_err-n.ensures, refl)

pub overflow_cast-count : goal.overflow_cast-count
overflow_cast-count c =
    let a = c.args in
    let says : N.Done c.in_ok-n.n ≡ answered a.measured a.count (length a.out.now) = rw (← c.plus-size.ensures) c.in_ok-n.ensures in
    let h = roomy_of a.measured a.count (length a.out.now) _ (sym says) in
    omega (arith, h.few)

pub returns : goal.returns
unfolding begun row_description
returns c =
    let a = c.args in
    let says : N.Done c.in_ok-n.n ≡ answered a.measured a.count (length a.out.now) = rw (← c.plus-size.ensures) c.in_ok-n.ensures in
    let h = roomy_of a.measured a.count (length a.out.now) _ (sym says) in
    let e = headed c.put_head-at.ensures (omega (arith, h.whole)) h.fits h.small in
    let w = c.put_half.ensures.fits refl (omega (arith, h.whole, h.fits, e.place)) in
    (says, w.bytes ∙ (λ j. write (e.bytes j) (e.place j) (be 2 a.count)))
