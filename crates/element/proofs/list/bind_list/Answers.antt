-- `element::list::bind_list` meets its contract: arm by arm.
use Prim.Native.Nat.{ℕ, zero, suc}
use borrow.Author.Rules.{rules}
use mathlib.Core.Option.{none}
use mathlib.Core.Path.{◌≡◌, refl}
use Rattle.protocol.specs.declared.Message.TheVariants as M
use Rattle.protocol.specs.declared.extendedquery.Bind.{Bind}
use Rattle.protocol.specs.Elements.{list_in, list_of}
use Rattle.protocol.specs.Kinds.{bind}
use Rattle.protocol.specs.Views.{view}
use Rattle.element.proofs.list.bind_list.Goals as goal

other : (m : Bind) (l : ℕ) → (l ≡ 0 → ⊥) → (l ≡ 1 → ⊥) → (l ≡ 2 → ⊥) → none ≡ list_of (M.Bind m) l
unfolding list_of list_in view bind
other m zero a b c = absurd (a refl)
other m (suc zero) a b c = absurd (b refl)
other m (suc (suc zero)) a b c = absurd (c refl)
other m (suc (suc (suc l))) a b c = refl

pub returns-in-0 : goal.returns-in-0
unfolding list_of list_in view bind
returns-in-0 c = rw c.in-0.is refl

pub returns-in-1 : goal.returns-in-1
unfolding list_of list_in view bind
returns-in-1 c = rw c.in-1.is refl

pub returns-in-2 : goal.returns-in-2
unfolding list_of list_in view bind
returns-in-2 c = rw c.in-2.is refl

pub returns-in_default : goal.returns-in_default
returns-in_default c = other _ _ (search rules) (search rules) (search rules)
