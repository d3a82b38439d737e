-- `items::Item::pass` meets its contract.
use Rattle.std.proofs.Common.{◌≡◌, ◌-◌, ◌+◌, ◌≤◌, ◌<◌, ◌∙◌, arith}
use Rattle.std.proofs.lemmas.Result.{err_from_is_err_and}
use Rattle.protocol.proofs.Counts.{pass_none, pass_refused, pass_turn}
use Rattle.items.proofs.Passing.{passed, not_passed}
use Rattle.items.proofs.Item.pass.Goals as goal

pub returns-in_err-next : goal.returns-in_err-next
returns-in_err-next g c =
    let p = err_from_is_err_and c.from_residual.result c.from_residual.ensures.1 in
    let left : 0 < c.args.count - c.loop.counter = omega arith in
    rw (p.1, p.2) (pass_refused _ _ _ _ _ left _ _ (not_passed _ g.Self.Item.item _ _ g.Self.Item.item.element c.in_err-next.ensures) ∙ c.loop.invariant)

pub loop-preserved : goal.loop-preserved
loop-preserved g c =
    let left : 0 < c.args.count - c.loop.counter = omega arith in
    let less : c.args.count - (c.loop.counter + 1) ≡ c.args.count - c.loop.counter - 1 = omega arith in
    rw less (pass_turn _ _ _ _ _ left _ (passed _ g.Self.Item.item _ _ g.Self.Item.item.element c.in_ok-next.ensures) ∙ c.loop.invariant)

pub returns : goal.returns
returns g c =
    let none : c.args.count - c.loop.counter ≤ 0 = omega arith in
    pass_none _ _ _ _ _ none ∙ c.loop.invariant
