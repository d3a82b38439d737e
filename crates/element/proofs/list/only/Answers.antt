-- `element::list::only` meets its contract.
use Prim.Native.Nat.{ℕ, zero, suc}
use mathlib.Core.Option.{none}
use mathlib.Core.Path.{◌≡◌, refl}
use Rattle.protocol.specs.declared.List.{List as ListSlot}
use Rattle.protocol.specs.Fields.{Item}
use Rattle.element.specs.OneList.{only}
use Rattle.element.proofs.list.only.Goals as goal

other : (i : Item) (x : ListSlot) (l : ℕ) → (l ≡ 0 → ⊥) → none ≡ only i x l
unfolding only
other i x zero h = absurd (h refl)
other i x (suc l) h = refl

pub returns-then-list-eq0 : goal.returns-then-list-eq0
unfolding only
returns-then-list-eq0 c = rw c.if-list-eq0.true refl

pub returns-else-list-eq0 : goal.returns-else-list-eq0
returns-else-list-eq0 c = other _ _ _ c.if-list-eq0.false
