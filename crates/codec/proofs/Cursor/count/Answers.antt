-- `codec::Cursor::count` meets its contract: by what the count's two bytes are.
use Rattle.std.proofs.Common.{◌≤◌, sym, ◌∙◌, arith}
use native.Mathlib.Nat.{mul-le-mul}
use borrow.Author.Tests.{ltb-true, ltb-false}
use Rattle.protocol.specs.Fields.{most}
use Rattle.protocol.proofs.Numbers.{whole}
use Rattle.codec.proofs.Lists.{count_short, count_negative, count_large, count-got}
use Rattle.codec.proofs.Cursor.count.Goals as goal

pub returns-in_default : goal.returns-in_default
returns-in_default c = let a = c.args in rw c.at.ensures (count_short a.reading a.least a.frame.now a.self.at c.in_default.ensures)

pub returns-then-negative : goal.returns-then-negative
returns-then-negative c = let n = c.negative.ensures in
    rw c.at-then-negative.ensures (count_negative _ _ _ _ _ _ c.in-Some.ensures n.1 (ltb-true _ _ (sym n.0 ∙ c.if-negative.true)))

pub overflow_sub-frame : goal.overflow_sub-frame
overflow_sub-frame c = (whole 2 _ _ _ _ (sym c.in-Some.ensures)).fits

pub overflow_mul-count : goal.overflow_mul-count
overflow_mul-count c = let small : c.args.least ≤ 255 = omega (arith, c.ranges) in
    omega (arith, mul-le-mul c.negative.ensures.1 small)

pub returns-then-frame-start : goal.returns-then-frame-start
returns-then-frame-start c =
    let few : c.in-Some.count ≤ most c.args.reading = ltb-false _ _ (sym c.negative.ensures.0 ∙ c.if-negative.false) in
    rw c.at-then-frame-start.ensures (count_large _ _ _ _ _ _ c.in-Some.ensures few c.if-frame-start.true)

pub returns : goal.returns
returns c =
    let few : c.in-Some.count ≤ most c.args.reading = ltb-false _ _ (sym c.negative.ensures.0 ∙ c.if-negative.false) in
    count-got _ _ _ _ _ _ c.in-Some.ensures few c.if-frame-start.false
