-- `element::sorted_at` meets its contract: sort by sort.
use Rattle.std.proofs.Common.{refl, ◌∙◌}
use Rattle.element.proofs.sorted_at.Goals as goal

pub returns-in-Oid : goal.returns-in-Oid
returns-in-Oid c = c.item_at.ensures ∙ rw c.in-Oid.is refl

pub returns-in-Format : goal.returns-in-Format
returns-in-Format c = c.item_at-in-Format.ensures ∙ rw c.in-Format.is refl

pub returns-in-Value : goal.returns-in-Value
returns-in-Value c = c.item_at-in-Value.ensures ∙ rw c.in-Value.is refl

pub returns-in-Field : goal.returns-in-Field
returns-in-Field c = c.item_at-in-Field.ensures ∙ rw c.in-Field.is refl

pub returns-in-ErrorField : goal.returns-in-ErrorField
returns-in-ErrorField c = c.item_at-in-ErrorField.ensures ∙ rw c.in-ErrorField.is refl

pub returns-in-Pair : goal.returns-in-Pair
returns-in-Pair c = c.item_at-in-Pair.ensures ∙ rw c.in-Pair.is refl
