-- The second form hands back bytes of a value alone.
use Prim.Native.Nat.{ℕ, zero, suc, ◌+◌}
use mathlib.Core.List.{List, [], ◌∷◌}
use mathlib.Core.Option.{Option, some, none}
use mathlib.Core.Path.{◌≡◌, refl}
use lib.ListN.{length}
use Rattle.protocol.specs.Found as F
use Rattle.protocol.specs.Each.{Each}
use Rattle.protocol.specs.Elements.{value_or}
use Rattle.protocol.specs.Fields.{AtomSlot, Item, ItemContent, item_bytes, Field, one, counted, ended, Content}
use Rattle.protocol.specs.Kinds.{Kind, Mode, modes, IsIn, oid, format, nullable, row_field, error_field, pair}
use Rattle.protocol.specs.Kinds.{the_table}
use Rattle.protocol.proofs.Find.{All, in_all}
use Rattle.laws.specs.Items.{Found, item_from, found, list_item}

-- where it is no value the second form hands back nothing of its elements
pub record Speaks (i : Item) : Type 0 where
  pub plain : (i ≡ nullable → ⊥) → (s stand : List ℕ) (v : Each AtomSlot i.atoms) → value_or s stand (F.Is (i.element v)) ≡ []

-- ---- the items

oid_speaks : Speaks oid
unfolding value_or
oid_speaks = record { plain = λ _ s stand v. refl }

format_speaks : Speaks format
unfolding value_or
format_speaks = record { plain = λ _ s stand v. refl }

value_speaks : Speaks nullable
value_speaks = record { plain = λ other. absurd (other refl) }

field_speaks : Speaks row_field
unfolding value_or
field_speaks = record { plain = λ _ s stand v. refl }

error_speaks : Speaks error_field
unfolding value_or
error_speaks = record { plain = λ _ s stand v. refl }

pair_speaks : Speaks pair
unfolding value_or
pair_speaks = record { plain = λ _ s stand v. refl }

-- ---- the lists of every row

abbrev pub Speaking : List Field → Type 0
Speaking [] = Unit {0}
Speaking (one a ∷ xs) = Speaking xs
Speaking (counted k i ∷ xs) = Speaks i × Speaking xs
Speaking (ended i ∷ xs) = Speaks i × Speaking xs

abbrev AllSpeak : Mode → Type 0
AllSpeak m = All (λ (k : Kind). Speaking k.body) m.kinds

all_speak : All AllSpeak modes
unfolding the_table
all_speak = search (oid_speaks, format_speaks, value_speaks, field_speaks, error_speaks, pair_speaks, tt) depth 60 fits 5000

pub row_speaks : (m : Mode) → IsIn m modes → (k : Kind) → IsIn k m.kinds → Speaking k.body
row_speaks m i k j = in_all (λ (k : Kind). Speaking k.body) m.kinds (in_all AllSpeak modes all_speak m i) k j

-- ---- what is found in a body is an item of its list

unfoldable pub OfList : Option Item → Option Found → Type 0
OfList list none = Unit {0}
OfList list (some x) = Speaks x.item × (list ≡ some x.item)

item_of : (i : Item) → Speaks i → (p : ℕ) (cs : List (ItemContent i)) (n : ℕ) → OfList (some i) (item_from i p cs n)
unfolding OfList item_from
item_of i h p [] n = tt
item_of i h p (c ∷ cs) zero = (h, refl)
item_of i h p (c ∷ cs) (suc n) = item_of i h (p + length (item_bytes i c)) cs n

pub found_of : (xs : List Field) → Speaking xs → (p : ℕ) (c : Each Content xs) (l n : ℕ) → OfList (list_item xs l) (found xs p c l n)
unfolding OfList found list_item
found_of [] h p c l n = tt
found_of (one a ∷ xs) h p c l n = found_of xs h _ c.1 l n
found_of (counted k i ∷ xs) h p c zero n = item_of i h.0 (p + 2) c.0 n
found_of (counted k i ∷ xs) h p c (suc l) n = found_of xs h.1 _ c.1 l n
found_of (ended i ∷ xs) h p c zero n = item_of i h.0 p c.0 n
found_of (ended i ∷ xs) h p c (suc l) n = found_of xs h.1 _ c.1 l n
