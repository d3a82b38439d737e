-- `element::item_at` meets its contract: past those before it, and then the item.
use Rattle.std.proofs.Common.{refl}
use Rattle.std.proofs.lemmas.Result.{err_from_is_err_and}
use Rattle.protocol.specs.Elements.{element_by}
use Rattle.element.proofs.Reached.{item_is, item_refused}
use Rattle.element.proofs.item_at.Goals as goal

pub returns-in_err-c : goal.returns-in_err-c
unfolding element_by
returns-in_err-c g c =
    let p = err_from_is_err_and c.from_residual.result c.from_residual.ensures.1 in
    rw (p.1, p.2, ← c.in_err-c.ensures) refl

pub returns-in_err-element : goal.returns-in_err-element
returns-in_err-element g c =
    let p = err_from_is_err_and c.from_residual-in_err-element.result c.from_residual-in_err-element.ensures.1 in
    rw (p.1, p.2) (item_refused _ g.I.Item.item _ _ _ _ c.in_ok-c.ensures c.in_err-element.ensures)

pub returns : goal.returns
returns g c = item_is _ g.I.Item.item _ _ _ _ c.in_ok-c.ensures c.in_ok-element.ensures
