-- Which item of a frame's content an element call asks for, and where that item stands: said of the content, without reading.
use Rattle.std.specs.Prelude.{ℕ, zero, suc, ◌+◌, List, [], ◌∷◌, ◌≡◌, length}
use Rattle.std.proofs.Math.Option.{Option, some, none}
use Rattle.protocol.specs.Found.{Found as ElementAnswer}
use Rattle.protocol.specs.Answers.{success, refusal, of_element}
use Rattle.protocol.specs.Each.{Each}
use Rattle.protocol.specs.Fields.{Atom, AtomContent, AtomSlot, Item, ItemContent, item_bytes, item_slots, Field, one, counted, ended, Content, bytes}
use Rattle.protocol.specs.Refusals.{no_such_element}
use Rattle.laws.specs.Places.{AtomPlaced}

-- an item, its content, and where it begins
pub record Found : Type 0 where
  pub item : Item
  pub place : ℕ
  pub content : ItemContent item

-- item n of some, the first of which begins at p
unfoldable pub item_from : (i : Item) → ℕ → List (ItemContent i) → ℕ → Option Found
item_from i p [] n = none
item_from i p (c ∷ cs) zero = some (record { item = i; place = p; content = c })
item_from i p (c ∷ cs) (suc n) = item_from i (p + length (item_bytes i c)) cs n

-- item n of list l of a body whose first field begins at p: its lists from left to right are 0, 1, ..
unfoldable pub found : (xs : List Field) → ℕ → Each Content xs → ℕ → ℕ → Option Found
found [] p c l n = none
found (one a ∷ xs) p c l n = found xs (p + length (bytes (one a) c.0)) c.1 l n
found (counted k i ∷ xs) p c zero n = item_from i (p + 2) c.0 n
found (counted k i ∷ xs) p c (suc l) n = found xs (p + length (bytes (counted k i) c.0)) c.1 l n
found (ended i ∷ xs) p c zero n = item_from i p c.0 n
found (ended i ∷ xs) p c (suc l) n = found xs (p + length (bytes (ended i) c.0)) c.1 l n

-- what list l of a body is a list of
unfoldable pub list_item : List Field → ℕ → Option Item
list_item [] l = none
list_item (one a ∷ xs) l = list_item xs l
list_item (counted k i ∷ xs) zero = some i
list_item (counted k i ∷ xs) (suc l) = list_item xs l
list_item (ended i ∷ xs) zero = some i
list_item (ended i ∷ xs) (suc l) = list_item xs l

-- each atom of an item is where its slot says
unfoldable pub AtomsPlaced : List ℕ → (xs : List Atom) → Each AtomSlot xs → Each AtomContent xs → Type 0
AtomsPlaced s [] v c = Unit {0}
AtomsPlaced s (a ∷ xs) v c = AtomPlaced s a v.0 c.0 × AtomsPlaced s xs v.1 c.1

-- e is that item, numbers and positions, and the parts of s at its positions are its own bytes
pub record IsItem (s : List ℕ) (x : Found) (e : ElementAnswer) : Type 0 where
  pub is : of_element e ≡ success (x.item.element (item_slots x.item x.place x.content)) 0
  pub placed : AtomsPlaced s x.item.atoms (item_slots x.item x.place x.content) x.content

-- e is what an element call of s answers of it: 11 where there is none
abbrev pub Answers : List ℕ → Option Found → ElementAnswer → Type 0
Answers s none e = of_element e ≡ refusal no_such_element 0
Answers s (some x) e = IsItem s x e
