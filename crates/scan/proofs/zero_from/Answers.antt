-- `scan::zero_from` meets its contract: each pass leaves what the plain scan finds.
use Rattle.std.proofs.Common.{sym, ◌∙◌, arith}
use Rattle.scan.proofs.Zeros.{at_end_lem, past_clear}
use Rattle.scan.proofs.zero_from.Goals as goal

pub returns-then-s-from : goal.returns-then-s-from
returns-then-s-from c = sym (at_end_lem c.args.s.now _ c.if-s-from.true)

pub returns-in-Some : goal.returns-in-Some
returns-in-Some c =
    let first = past_clear c.args.s.now c.args.from 16 (omega (arith, c.if-s-from.false)) c.in-Some.ensures.cases c.if-clear.ensures in
    c.near.ensures ∙ c.pass_far.ensures.1.1 ∙ first.1.1
