-- The sorts of field (docs/FORMAT.md 1). A body is a list of fields from left to right. A field is an atom, one thing on the wire, or a list of
-- items, each of which is a list of atoms. For each sort: what it means (content), that a content is in its
-- type's range (InRange) and can be written (able), its bytes, what a record holds of it (slot, docs/FORMAT.md 7), and how many bytes it needs at
-- least.
use Rattle.std.specs.Prelude.{ℕ, ◌+◌, ◌/◌, ◌<◌, ◌^◌, Bool, true, false, not, ◌&&◌, List, [], ◌∷◌, ◌++◌, leb, eqb, ℤ, pos, negsuc, length}
use Rattle.std.proofs.Math.Option.{Option, some, none}
use Rattle.std.specs.Int.Signed.{mag}
use Rattle.protocol.specs.declared.Count.TheVariants as C
use Rattle.protocol.specs.declared.Count.{Count as Reading}
use Rattle.protocol.specs.declared.Element.{Element}
use Rattle.protocol.specs.declared.List.{List as ListSlot}
use Rattle.protocol.specs.declared.Rules.{Rules}
use Rattle.protocol.specs.declared.Span.{Span}
use Rattle.protocol.specs.Bytes.{Bytes, no_zero, is_one_of, be, signed_of, bits_of}
use Rattle.protocol.specs.Each.{Each, bytes_of_each, slots_of_each, able_each, HoldsEach, least_of_each}

-- ---- atoms

pub data Atom : Type 0 where
  unsigned : ℕ → Atom  -- a number of that many bytes
  signed : ℕ → Atom  -- a signed number of that many bytes, in two's complement
  one_of : List ℕ → Atom  -- a byte that is one of these
  text : Atom  -- a string: bytes up to its zero byte
  value : Atom  -- a signed 32-bit length and that many bytes; -1 is NULL and has none
  rest : Atom  -- all that is left of the frame

abbrev pub AtomContent : Atom → Type 0
AtomContent (unsigned w) = ℕ
AtomContent (signed w) = ℤ
AtomContent (one_of bs) = ℕ
AtomContent text = List ℕ
AtomContent value = Option (List ℕ)
AtomContent rest = List ℕ

abbrev pub AtomSlot : Atom → Type 0
AtomSlot (unsigned w) = ℕ
AtomSlot (signed w) = ℤ
AtomSlot (one_of bs) = ℕ
AtomSlot text = Span
AtomSlot value = Option Span
AtomSlot rest = Span

-- NULL, or bytes of which a signed 32-bit length can tell how many they are
unfoldable pub ValueInRange : Option (List ℕ) → Type 0
ValueInRange none = Unit {0}
ValueInRange (some s) = Bytes s × (length s < 256 ^ 4 / 2)

unfoldable pub AtomInRange : (a : Atom) → AtomContent a → Type 0
AtomInRange (unsigned w) n = n < 256 ^ w
AtomInRange (signed w) z = mag z < 256 ^ w / 2
AtomInRange (one_of bs) b = b < 256
AtomInRange text s = Bytes s
AtomInRange value v = ValueInRange v
AtomInRange rest s = Bytes s

unfoldable pub atom_able : Rules → (a : Atom) → AtomContent a → Bool
atom_able rules (unsigned w) n = true
atom_able rules (signed w) z = true
atom_able rules (one_of bs) b = is_one_of b bs
atom_able rules text s = no_zero s
atom_able rules value v = true
atom_able rules rest s = true

unfoldable pub value_bytes : Option (List ℕ) → List ℕ
value_bytes none = be 4 (bits_of 4 (negsuc 0))
value_bytes (some s) = be 4 (length s) ++ s

unfoldable pub atom_bytes : (a : Atom) → AtomContent a → List ℕ
atom_bytes (unsigned w) n = be w n
atom_bytes (signed w) z = be w (bits_of w z)
atom_bytes (one_of bs) b = b ∷ []
atom_bytes text s = s ++ 0 ∷ []
atom_bytes value v = value_bytes v
atom_bytes rest s = s

unfoldable pub value_slot : ℕ → Option (List ℕ) → Option Span
value_slot p none = none
value_slot p (some s) = some (record { start = p + 4; len = length s })

unfoldable pub atom_slot : (a : Atom) → ℕ → AtomContent a → AtomSlot a
atom_slot (unsigned w) p n = n
atom_slot (signed w) p z = z
atom_slot (one_of bs) p b = b
atom_slot text p s = record { start = p; len = length s }
atom_slot value p v = value_slot p v
atom_slot rest p s = record { start = p; len = length s }

abbrev pub atom_least : Atom → ℕ
atom_least (unsigned w) = w
atom_least (signed w) = w
atom_least (one_of bs) = 1
atom_least text = 1
atom_least value = 4
atom_least rest = 0

-- ---- items: the elements of lists

-- the atoms, and what an element call answers of their slots
pub record Item : Type 0 where
  pub atoms : List Atom
  pub element : Each AtomSlot atoms → Element

abbrev pub ItemContent : Item → Type 0
ItemContent i = Each AtomContent i.atoms

unfoldable pub ItemInRange : (i : Item) → ItemContent i → Type 0
ItemInRange i c = HoldsEach AtomInRange i.atoms c

unfoldable pub item_able : Rules → (i : Item) → ItemContent i → Bool
item_able rules i c = able_each (atom_able rules) i.atoms c

unfoldable pub item_bytes : (i : Item) → ItemContent i → List ℕ
item_bytes i c = bytes_of_each atom_bytes i.atoms c

unfoldable pub item_slots : (i : Item) → ℕ → ItemContent i → Each AtomSlot i.atoms
item_slots i p c = slots_of_each atom_bytes atom_slot i.atoms p c

unfoldable pub item_least : Item → ℕ
item_least i = least_of_each atom_least i.atoms

-- all items' bytes, one after the other
unfoldable pub items_bytes : (i : Item) → List (ItemContent i) → List ℕ
items_bytes i [] = []
items_bytes i (c ∷ cs) = item_bytes i c ++ items_bytes i cs

unfoldable pub ItemsInRange : (i : Item) → List (ItemContent i) → Type 0
ItemsInRange i [] = Unit {0}
ItemsInRange i (c ∷ cs) = ItemInRange i c × ItemsInRange i cs

unfoldable pub items_able : Rules → (i : Item) → List (ItemContent i) → Bool
items_able rules i [] = true
items_able rules i (c ∷ cs) = item_able rules i c && items_able rules i cs

-- some bytes begin with zero
unfoldable pub zero_first : List ℕ → Bool
zero_first [] = false
zero_first (b ∷ bs) = eqb b 0

-- no item's bytes begin with zero, where zero ends the list: an error's code is not zero
unfoldable pub none_ends : (i : Item) → List (ItemContent i) → Bool
none_ends i [] = true
none_ends i (c ∷ cs) = not (zero_first (item_bytes i c)) && none_ends i cs

-- ---- fields

-- how a count's two bytes are read: the code's word for it, as for an element
abbrev pub Count : Type 0
Count = Reading

abbrev pub signed_count : Count
signed_count = C.Signed

abbrev pub unsigned_count : Count
unsigned_count = C.Unsigned

-- the count that its two bytes are
abbrev pub count_of : Count → ℕ → ℤ
count_of C.Signed n = signed_of 2 n
count_of C.Unsigned n = pos n

-- the largest count that can be written
abbrev pub most : Count → ℕ
most C.Signed = 32767
most C.Unsigned = 65535

pub data Field : Type 0 where
  one : Atom → Field  -- an atom
  counted : Count → Item → Field  -- a count, and that many items
  ended : Item → Field  -- items, and a zero byte in place of a further one

abbrev pub Content : Field → Type 0
Content (one a) = AtomContent a
Content (counted k i) = List (ItemContent i)
Content (ended i) = List (ItemContent i)

abbrev pub Slot : Field → Type 0
Slot (one a) = AtomSlot a
Slot (counted k i) = ListSlot
Slot (ended i) = ListSlot

unfoldable pub InRange : (x : Field) → Content x → Type 0
InRange (one a) c = AtomInRange a c
InRange (counted k i) cs = ItemsInRange i cs
InRange (ended i) cs = ItemsInRange i cs

-- the cases of refusal 10 (docs/FORMAT.md 9): false where a content cannot be written
unfoldable pub able : Rules → (x : Field) → Content x → Bool
able rules (one a) c = atom_able rules a c
able rules (counted k i) cs = leb (length cs) (most k) && items_able rules i cs
able rules (ended i) cs = items_able rules i cs && none_ends i cs

unfoldable pub bytes : (x : Field) → Content x → List ℕ
bytes (one a) c = atom_bytes a c
bytes (counted k i) cs = be 2 (length cs) ++ items_bytes i cs
bytes (ended i) cs = items_bytes i cs ++ 0 ∷ []

unfoldable pub slot : (x : Field) → ℕ → Content x → Slot x
slot (one a) p c = atom_slot a p c
slot (counted k i) p cs = record { start = p + 2; count = length cs }
slot (ended i) p cs = record { start = p; count = length cs }

abbrev pub least : Field → ℕ
least (one a) = atom_least a
least (counted k i) = 2
least (ended i) = 1
