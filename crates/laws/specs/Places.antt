-- What a record's positions point at: the part of the buffer there is the field's content.
use Rattle.std.specs.Prelude.{ℕ, ◌+◌, List, [], ◌∷◌, ◌≡◌, length}
use Rattle.std.proofs.Math.Option.{Option, some, none}
use Rattle.protocol.specs.declared.Span.{Span}
use Rattle.protocol.specs.Bytes.{part_of}
use Rattle.protocol.specs.Each.{Each}
use Rattle.protocol.specs.Fields.{Atom, unsigned, signed, one_of, text, value, rest, AtomContent, AtomSlot, Field, one, counted, ended, Content, Slot, bytes}

-- a string, value or rest at a position
abbrev pub SpanPlaced : List ℕ → Span → List ℕ → Type 0
SpanPlaced s v c = part_of s v.start v.len ≡ c

unfoldable pub ValuePlaced : List ℕ → Option Span → Option (List ℕ) → Type 0
ValuePlaced s none none = Unit {0}
ValuePlaced s (some v) (some c) = SpanPlaced s v c
ValuePlaced s none (some c) = ⊥
ValuePlaced s (some v) none = ⊥

unfoldable pub AtomPlaced : List ℕ → (a : Atom) → AtomSlot a → AtomContent a → Type 0
AtomPlaced s (unsigned w) v c = v ≡ c
AtomPlaced s (signed w) v c = v ≡ c
AtomPlaced s (one_of bs) v c = v ≡ c
AtomPlaced s text v c = SpanPlaced s v c
AtomPlaced s value v c = ValuePlaced s v c
AtomPlaced s rest v c = SpanPlaced s v c

-- a field that begins at p: a list's start is the byte after its count, also when it is empty
unfoldable pub FieldPlaced : List ℕ → (x : Field) → ℕ → Slot x → Content x → Type 0
FieldPlaced s (one a) p v c = AtomPlaced s a v c
FieldPlaced s (counted k i) p l cs = (l.start ≡ p + 2) × (l.count ≡ length cs)
FieldPlaced s (ended i) p l cs = (l.start ≡ p) × (l.count ≡ length cs)

-- a body's fields, the first of which begins at p
unfoldable pub FieldsPlaced : List ℕ → (xs : List Field) → ℕ → Each Slot xs → Each Content xs → Type 0
FieldsPlaced s [] p v c = Unit {0}
FieldsPlaced s (x ∷ xs) p v c = FieldPlaced s x p v.0 c.0 × FieldsPlaced s xs (p + length (bytes x c.0)) v.1 c.1
