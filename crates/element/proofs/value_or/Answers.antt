-- `element::value_or` meets its contract: element by element.
use Rattle.std.specs.Prelude.{ℕ, List, []}
use Rattle.std.proofs.Common.{◌≡◌, refl, ◌∙◌}
use Rattle.protocol.specs.declared.Element.TheVariants as E
use Rattle.protocol.specs.declared.Element.{Element}
use Rattle.protocol.specs.declared.Span.{Span}
use Rattle.protocol.specs.declared.refusal.Unread.TheVariants as U
use Rattle.protocol.specs.declared.refusal.Unread.{Unread}
use Rattle.std.specs.Prelude.{Err}
use Rattle.protocol.specs.Elements.{value_or}
use Rattle.protocol.specs.Found as F
use Rattle.protocol.specs.Told.{found}
use Rattle.element.proofs.value_or.Goals as goal

no_value : (s stand : List ℕ) (e : Element) → ((v : Span) → e ≡ E.Value v → ⊥) → (e ≡ E.Null → ⊥) → [] ≡ value_or s stand (F.Is e)
unfolding value_or
no_value s stand E.Null v n = absurd (n refl)
no_value s stand (E.Value x) v n = absurd (v x refl)
no_value s stand e v n = refl

unread : (s stand : List ℕ) (u : Unread) → [] ≡ value_or s stand (found (Err u))
unfolding value_or
unread s stand U.NeedMore = refl
unread s stand (U.Refused r) = refl

pub returns-in_default : goal.returns-in_default
returns-in_default c = rw (← c.element.ensures, c.in_default.is) (unread _ _ _)

pub returns-in-Value : goal.returns-in-Value
unfolding value_or
returns-in-Value c = c.part.ensures ∙ rw (← c.in-Ok.ensures, c.in-Value.is) refl

pub returns-in-Null : goal.returns-in-Null
unfolding value_or
returns-in-Null c = rw (← c.in-Ok.ensures, c.in-Null.is) refl

pub returns-in_default-element : goal.returns-in_default-element
returns-in_default-element c = rw (← c.in-Ok.ensures) (no_value _ _ _ c.in_default-element.not-Value c.in_default-element.not-Null)
