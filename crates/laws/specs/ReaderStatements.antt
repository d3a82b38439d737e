-- What is proved of reading a frame field after field, as a host does with a frame reader. A reader's answers are functions of the frame's bytes and
-- of a place; the theorem holds of `the_reader`, to which the reader's functions are proved equal.
use Rattle.std.specs.Prelude.{ℕ, ◌+◌, ◌≤◌, ◌<◌, List, [], ◌∷◌, ◌++◌, ◌⊎◌, ◌≡◌, ℤ, pos, negsuc, length}
use Rattle.std.proofs.Math.Option.{Option, some}
use Rattle.protocol.specs.declared.Element.TheVariants as E
use Rattle.protocol.specs.declared.Element.{Element}
use Rattle.protocol.specs.declared.List.{List as ListSlot}
use Rattle.protocol.specs.declared.Message.TheVariants as M
use Rattle.protocol.specs.declared.Message.{Message}
use Rattle.protocol.specs.declared.Rules.{Rules}
use Rattle.protocol.specs.declared.Span.{Span}
use Rattle.protocol.specs.declared.data.DataRow.{DataRow}
use Rattle.protocol.specs.Answers.{Answer, success, needs_more, refusal, of_decoded, of_element}
use Rattle.protocol.specs.Bytes.{Bytes, bits_of}
use Rattle.protocol.specs.Each.{Each}
use Rattle.protocol.specs.Fields.{Atom, unsigned, signed, one_of, text, value, rest, AtomContent, atom_bytes, value_slot, atom_slot, Item, ItemContent, item_bytes, Field, one, counted, ended, Content, items_bytes, bytes}
use Rattle.protocol.specs.Kinds.{Kind, Mode}
use Rattle.protocol.specs.Reading.{Read, got, read_number, read_text, read_value}
use Rattle.protocol.specs.Refusals.{output_too_short, no_such_element}
use Rattle.protocol.specs.Rules.{rules_of}
use Rattle.protocol.specs.WellFormed.{Contents, WellFormed, body_start, frame}
use Rattle.reader.specs.RowAnswer.{Row}
use Rattle.reader.specs.Row.{of_row, ReadsRow}
use Rattle.laws.specs.Arguments.{nth}
use Rattle.laws.specs.Places.{AtomPlaced}
use Rattle.laws.specs.Statements.{Decoder, ElementCall, IsNumbered, decode_numbers}

-- a number of 1, 2 or 4 bytes, a string and a value, each at a place of a frame
pub record Reader : Type 0 where
  pub number : ℕ → List ℕ → ℕ → Read ℕ
  pub string : List ℕ → ℕ → Read Span
  pub value : List ℕ → ℕ → Read (Option Span)

abbrev pub the_reader : Reader
the_reader = record { number = read_number; string = read_text; value = read_value }

-- one step gives the atom's content, and leads to q. A signed number comes as its bits; the rest of a frame is no step: it ends where the frame ends
unfoldable pub Step : Reader → List ℕ → (a : Atom) → ℕ → AtomContent a → ℕ → Type 0
Step reader f (unsigned w) p n q = reader.number w f p ≡ got n q
Step reader f (signed w) p z q = reader.number w f p ≡ got (bits_of w z) q
Step reader f (one_of bs) p b q = reader.number 1 f p ≡ got b q
Step reader f text p s q = reader.string f p ≡ got (record { start = p; len = length s }) q
Step reader f value p v q = reader.value f p ≡ got (value_slot p v) q
Step reader f rest p s q = q ≡ length f

-- an atom: the step, and that the part of the frame at its position is its own
abbrev pub AtomInOrder : Reader → List ℕ → (a : Atom) → ℕ → AtomContent a → Type 0
AtomInOrder reader f a p c = Step reader f a p c (p + length (atom_bytes a c)) × AtomPlaced f a (atom_slot a p c) c

unfoldable pub AtomsInOrder : Reader → List ℕ → (xs : List Atom) → ℕ → Each AtomContent xs → Type 0
AtomsInOrder reader f [] p c = Unit {0}
AtomsInOrder reader f (a ∷ xs) p c = AtomInOrder reader f a p c.0 × AtomsInOrder reader f xs (p + length (atom_bytes a c.0)) c.1

unfoldable pub ItemsInOrder : Reader → List ℕ → (i : Item) → ℕ → List (ItemContent i) → Type 0
ItemsInOrder reader f i p [] = Unit {0}
ItemsInOrder reader f i p (c ∷ cs) = AtomsInOrder reader f i.atoms p c × ItemsInOrder reader f i (p + length (item_bytes i c)) cs

-- a list: its count and its items; or its items and the zero byte that ends them
unfoldable pub FieldInOrder : Reader → List ℕ → (x : Field) → ℕ → Content x → Type 0
FieldInOrder reader f (one a) p c = AtomInOrder reader f a p c
FieldInOrder reader f (counted k i) p cs = (reader.number 2 f p ≡ got (length cs) (p + 2)) × ItemsInOrder reader f i (p + 2) cs
FieldInOrder reader f (ended i) p cs =
    ItemsInOrder reader f i p cs × (reader.number 1 f (p + length (items_bytes i cs)) ≡ got 0 (p + length (bytes (ended i) cs)))

-- one field after another, to the frame's end
unfoldable pub FieldsInOrder : Reader → List ℕ → (xs : List Field) → ℕ → Each Content xs → Type 0
FieldsInOrder reader f [] p c = p ≡ length f
FieldsInOrder reader f (x ∷ xs) p c = FieldInOrder reader f x p c.0 × FieldsInOrder reader f xs (p + length (bytes x c.0)) c.1

-- Reading the fields of a well-formed frame one after another, from its body on, gives its content in order and ends at the frame's end.
abbrev pub InOrder : Reader → Type 0
InOrder reader =
    (rules : Rules) (m : Mode) (k : Kind) (c : Contents k) → WellFormed rules m k c
    → FieldsInOrder reader (frame m.envelope k c) k.body (body_start m.envelope) c

-- ---- a row at once

-- What is answered: decode's own need-more or refusal; then 11 where the message is no DataRow, and 9 where a list is too short, each at 0; else the
-- row's values and the bytes consumed.
pub record RowAnswered (decode : Decoder) (s starts : List ℕ) (lengths : List ℤ) (a : Answer ListSlot) : Type 0 where
  pub need_more : of_decoded (decode (rules_of 1) s) ≡ needs_more → a ≡ needs_more
  pub refused : (number place : ℕ) → of_decoded (decode (rules_of 1) s) ≡ refusal number place → a ≡ refusal number place
  pub other : (m : Message) (n : ℕ) → of_decoded (decode (rules_of 1) s) ≡ success m n
      → ((r : DataRow) → m ≡ M.DataRow r → ⊥) → a ≡ refusal no_such_element 0
  pub short : (r : DataRow) (n : ℕ) → of_decoded (decode (rules_of 1) s) ≡ success (M.DataRow r) n
      → (length starts < r.«data».count) ⊎ (length lengths < r.«data».count) → a ≡ refusal output_too_short 0
  pub row : (r : DataRow) (n : ℕ) → of_decoded (decode (rules_of 1) s) ≡ success (M.DataRow r) n
      → r.«data».count ≤ length starts → r.«data».count ≤ length lengths → a ≡ success r.«data» n

abbrev pub RowAnswers : Decoder → Type 0
RowAnswers decode =
    (s starts₀ starts₁ : List ℕ) (lengths₀ lengths₁ : List ℤ) (r : Row) → ReadsRow s starts₀ lengths₀ r starts₁ lengths₁
    → RowAnswered decode s starts₀ lengths₀ (of_row r)

-- A refusal has a number from 1 to 8, or 9 or 11; and a refusal or need-more consumes 0 and gives no row.
abbrev pub row_numbers : List ℕ
row_numbers = decode_numbers ++ 9 ∷ 11 ∷ []

abbrev pub RowNumbered : Type 0
RowNumbered =
    (s starts₀ starts₁ : List ℕ) (lengths₀ lengths₁ : List ℤ) (r : Row) → Bytes s → ReadsRow s starts₀ lengths₀ r starts₁ lengths₁
    → IsNumbered row_numbers (of_row r)

-- the element that an entry tells
abbrev pub element_as : ℕ → ℤ → Element
element_as start (pos len) = E.Value (record { start = start; len = len })
element_as start (negsuc n) = E.Null

pub record RowIs (call : ElementCall) (s starts₀ starts₁ : List ℕ) (lengths₀ lengths₁ : List ℤ) (count : ℕ) : Type 0 where
  pub entry : (i : ℕ) → i < count
      → (start : ℕ) × (length : ℤ) × (nth starts₁ i ≡ some start) × (nth lengths₁ i ≡ some length)
      × (of_element (call (rules_of 1) s 0 i) ≡ success (element_as start length) 0)
  pub starts : (i : ℕ) → count ≤ i → nth starts₁ i ≡ nth starts₀ i
  pub lengths : (i : ℕ) → count ≤ i → nth lengths₁ i ≡ nth lengths₀ i

-- Entry i of the two lists that a row was read into is element i, for every i below the count; later entries are as they were.
abbrev pub RowEntries : ElementCall → Type 0
RowEntries call =
    (s starts₀ starts₁ : List ℕ) (lengths₀ lengths₁ : List ℤ) (r : Row) (l : ListSlot) (n : ℕ)
    → ReadsRow s starts₀ lengths₀ r starts₁ lengths₁ → of_row r ≡ success l n
    → RowIs call s starts₀ starts₁ lengths₀ lengths₁ l.count
