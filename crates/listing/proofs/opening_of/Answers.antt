-- `listing::opening_of` meets its contract: each digit is a mode's, and any other byte none's.
use Rattle.std.proofs.Common.{length-take, length-drop, arith}
use Rattle.std.proofs.lemmas.Result.{err_from_is_err_and}
use Rattle.listing.proofs.Openings.{empty, opened_by, oversize_by, unnamed_by}
use Rattle.listing.proofs.opening_of.Goals as goal

pub returns-in_default : goal.returns-in_default
returns-in_default c = empty _ (omega (arith, c.in_default.len_below))

pub returns-in_err-mode : goal.returns-in_err-mode
returns-in_err-mode c =
    let p = err_from_is_err_and c.from_residual.result c.from_residual.ensures.1 in
    rw (p.1, p.2) (unnamed_by _ (omega (arith, c.in-len1-up.len_at_least)) (omega (arith, c.type_inv.input 0)) c.in_err-mode.ensures.0)

pub returns-then-stream-gt-MOST : goal.returns-then-stream-gt-MOST
returns-then-stream-gt-MOST c =
    oversize_by _ c.in_ok-mode.mode (omega (arith, c.in-len1-up.len_at_least)) (omega (arith, c.type_inv.input 0)) c.in_ok-mode.ensures (omega (arith, simp (length-take, length-drop) at c.if-stream-gt-MOST.true))

pub returns : goal.returns
returns c =
    opened_by _ c.in_ok-mode.mode (omega (arith, c.in-len1-up.len_at_least)) (omega (arith, c.type_inv.input 0)) c.in_ok-mode.ensures (omega (arith, simp (length-take, length-drop) at c.if-stream-gt-MOST.false))
