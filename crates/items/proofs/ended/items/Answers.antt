-- `items::ended::items` meets its contract.
use Rattle.std.proofs.Common.{refl, sym, ◌∙◌, add-one, arith}
use Rattle.protocol.specs.Reading.{read_ended}
use Rattle.protocol.proofs.Ended.{ended_cut, ended_zero, ended_bad, ended_more}
use Rattle.protocol.proofs.Numbers.{whole, not_whole}
use Rattle.items.proofs.Passing.{passed, not_passed, further}
use Rattle.items.proofs.ended.items.Goals as goal

pub returns-in_default : goal.returns-in_default
unfolding read_ended
returns-in_default g c =
    let a = c.args in
    let on = g.met.I.EndedItem.grows a.rules a.frame.now in
    let short = not_whole 1 _ _ _ _ (sym c.in_default.ensures) in
    rw (c.at.ensures, ← ended_cut _ _ _ on _ _ short ∙ c.loop-first.invariant.same_list) refl

pub returns-then-first-eq0 : goal.returns-then-first-eq0
unfolding read_ended
returns-then-first-eq0 g c =
    let a = c.args in
    let on = g.met.I.EndedItem.grows a.rules a.frame.now in
    rw (← ended_zero _ _ _ on _ _ _ _ c.in-Some.ensures c.if-first-eq0.true ∙ c.loop-first.invariant.same_list) refl

pub returns-in-Err : goal.returns-in-Err
unfolding read_ended
returns-in-Err g c =
    let a = c.args in
    let i = g.I.Item.item in
    let on = g.met.I.EndedItem.grows a.rules a.frame.now in
    let cut = not_passed _ i _ _ i.element c.in-Err.ensures in
    rw (← ended_bad _ _ _ on _ _ _ _ c.in-Some.ensures c.if-first-eq0.false _ _ cut ∙ c.loop-first.invariant.same_list) refl

pub overflow_add-count : goal.overflow_add-count
overflow_add-count g c =
    let a = c.args in
    let i = g.I.Item.item in
    let on = g.met.I.EndedItem.grows a.rules a.frame.now in
    let w = whole 1 _ _ _ _ (sym c.in-Some.ensures) in
    omega (arith, w.fits, w.next, c.loop-first.invariant.further, further a.rules i a.frame.now _ i.element on c.in-Ok.ensures)

pub loop-first-smaller : goal.loop-first-smaller
loop-first-smaller g c =
    let a = c.args in
    let i = g.I.Item.item in
    let on = g.met.I.EndedItem.grows a.rules a.frame.now in
    let w = whole 1 _ _ _ _ (sym c.in-Some.ensures) in
    omega (arith, w.fits, w.next, further a.rules i a.frame.now _ i.element on c.in-Ok.ensures)

pub loop-first-preserved : goal.loop-first-preserved
loop-first-preserved g c =
    let a = c.args in
    let i = g.I.Item.item in
    let on = g.met.I.EndedItem.grows a.rules a.frame.now in
    let past = passed _ i _ _ i.element c.in-Ok.ensures in
    record {
      same_list = rw (add-one c.loop-first.count) (ended_more _ _ _ on _ _ _ _ c.in-Some.ensures c.if-first-eq0.false _ past ∙ c.loop-first.invariant.same_list);
      further = omega (arith, c.loop-first.invariant.further, further a.rules i a.frame.now _ i.element on c.in-Ok.ensures);
    }
