-- `items::data::fields` meets its contract: the count, then each field.
use Rattle.std.proofs.Common.{refl}
use Rattle.std.proofs.lemmas.Result.{err_from_is_err_and}
use Rattle.protocol.specs.Each.{least_of_each}
use Rattle.protocol.specs.Fields.{item_least}
use Rattle.protocol.specs.Reading.{read_counted}
use Rattle.items.proofs.data.fields.Goals as goal

pub returns-in_err-list : goal.returns-in_err-list
unfolding read_counted item_least least_of_each
returns-in_err-list c =
    let p = err_from_is_err_and c.from_residual.result c.from_residual.ensures.1 in
    rw (p.1, p.2, ← c.in_err-list.ensures) refl

pub returns-in_err-c : goal.returns-in_err-c
unfolding read_counted item_least least_of_each
returns-in_err-c c =
    let p = err_from_is_err_and c.from_residual-in_err-c.result c.from_residual-in_err-c.ensures.1 in
    rw (p.1, p.2, ← c.in_ok-list.ensures, ← c.in_err-c.ensures) refl

pub returns : goal.returns
unfolding read_counted item_least least_of_each
returns c = rw (← c.in_ok-list.ensures, ← c.in_ok-c.ensures) refl
