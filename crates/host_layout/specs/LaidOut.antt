-- The numbers that an answer is laid out as at the boundary: for a host, who has no enums. An array of them has always the same length,
-- with zeros behind what an answer has. The first four are the same for every call:
--   0: the status: 0 there is an answer, 1 need-more, 2 refused
--   1, 2: the refusal's number and place, 0 where nothing is refused
--   3: the bytes consumed; of a value, the place after it
-- A signed number is laid out as its 32 bits in two's complement.
use Rattle.std.specs.Prelude.{ℕ, zero, suc, List, [], ◌∷◌, ◌++◌, ℤ, negsuc, get_or, drop}
use Rattle.std.proofs.Math.Option.{Option, some, none}
use Rattle.protocol.specs.Decoded as D
use Rattle.protocol.specs.Decoded.{Decoded}
use Rattle.protocol.specs.declared.Element.TheVariants as E
use Rattle.protocol.specs.declared.Element.{Element}
use Rattle.protocol.specs.declared.List.{List as ListSlot}
use Rattle.protocol.specs.declared.Message.{Message}
use Rattle.protocol.specs.declared.Span.{Span}
use Rattle.protocol.specs.declared.data.FieldDescription.{FieldDescription}
use Rattle.protocol.specs.declared.refusal.Unread.TheVariants as U
use Rattle.protocol.specs.declared.refusal.Unread.{Unread}
use Rattle.protocol.specs.Answers.{Answer, success, needs_more, refusal}
use Rattle.protocol.specs.Bytes.{bits_of}
use Rattle.protocol.specs.Each.{Each}
use Rattle.protocol.specs.Fields as F
use Rattle.protocol.specs.Fields.{Atom, AtomSlot, Field, Slot}
use Rattle.protocol.specs.Found.{Found}
use Rattle.protocol.specs.Kinds.{Kind}
use Rattle.protocol.specs.Told.{number_of}
use Rattle.protocol.specs.Views.{view}

-- the first n numbers of some, zeros behind them
abbrev pub padded : ℕ → List ℕ → List ℕ
padded zero xs = []
padded (suc n) [] = 0 ∷ padded n []
padded (suc n) (x ∷ xs) = x ∷ padded n xs

-- a string, a value or a rest: its first byte and its length. A list: its first element's place and its count
abbrev pub span : Span → List ℕ
span s = s.start ∷ s.len ∷ []

abbrev pub list : ListSlot → List ℕ
list l = l.start ∷ l.count ∷ []

abbrev pub signed : ℤ → List ℕ
signed z = bits_of 4 z ∷ []

-- NULL has the start 0 and the length -1, as in the lists of a whole row
abbrev or_null : Option Span → List ℕ
or_null none = 0 ∷ signed (negsuc 0)
or_null (some s) = span s

abbrev atom_numbers : (a : Atom) → AtomSlot a → List ℕ
atom_numbers (F.unsigned w) n = n ∷ []
atom_numbers (F.signed w) z = signed z
atom_numbers (F.one_of bs) b = b ∷ []
atom_numbers F.text s = span s
atom_numbers F.value v = or_null v
atom_numbers F.rest s = span s

abbrev slot_numbers : (x : Field) → Slot x → List ℕ
slot_numbers (F.one a) v = atom_numbers a v
slot_numbers (F.counted k i) l = list l
slot_numbers (F.ended i) l = list l

abbrev each_numbers : (xs : List Field) → Each Slot xs → List ℕ
each_numbers [] s = []
each_numbers (x ∷ xs) s = slot_numbers x s.0 ++ each_numbers xs s.1

-- a kind's number, a TLS or GSS answer's own behind it, and the numbers of its fields
unfoldable pub numbers_of : Message → List ℕ
numbers_of m = (view m).kind.numbers ++ each_numbers (view m).kind.body (view m).slots

-- a TLS or GSS answer's own number, behind its kind's
abbrev pub own_number : Kind → ℕ
own_number k = get_or k.numbers 1 0

-- a row's field
abbrev pub field_numbers : FieldDescription → List ℕ
field_numbers d =
    span d.name ++ signed d.table_id ++ signed d.column_id ++ d.type_id ∷ signed d.type_size
    ++ signed d.type_modifier ++ signed d.format_code

-- ---- the answers

abbrev pub refused_out : ℕ → ℕ → ℕ → List ℕ
refused_out size number place = padded size (2 ∷ number ∷ place ∷ [])

abbrev pub need_more_out : ℕ → List ℕ
need_more_out size = padded size (1 ∷ [])

-- why the code read nothing
abbrev pub unread_out : Unread → List ℕ
unread_out U.NeedMore = need_more_out 16
unread_out (U.Refused r) = refused_out 16 (number_of r.refusal) r.place

-- a record of a kind's number and its fields' numbers
abbrev pub record_out : ℕ → List ℕ → List ℕ
record_out n xs = padded 16 (0 ∷ 0 ∷ 0 ∷ n ∷ xs)

-- decoding: 16 numbers; from the fifth on the kind's number and its fields
unfoldable pub laid_out : Decoded → List ℕ
laid_out (D.Record m n) = record_out n (numbers_of m)
laid_out D.NeedMore = need_more_out 16
laid_out (D.Refused number place) = refused_out 16 number place

-- an element: its sort and its numbers
abbrev pub element_numbers : Element → List ℕ
element_numbers (E.Oid n) = 1 ∷ n ∷ []
element_numbers (E.Format z) = 2 ∷ signed z
element_numbers E.Null = 3 ∷ []
element_numbers (E.Value s) = 4 ∷ span s
element_numbers (E.Field d) = 5 ∷ field_numbers d
element_numbers (E.ErrorField c s) = 6 ∷ c ∷ span s
element_numbers (E.Pair n v) = 7 ∷ span n ++ span v

-- an element call: 16 numbers too, nothing consumed; from the fifth on those of the element
unfoldable pub element_out : Found → List ℕ
element_out (Found.Is e) = record_out 0 (element_numbers e)
element_out Found.NeedMore = need_more_out 16
element_out (Found.Refused number place) = refused_out 16 number place

-- how a host reads the numbers of an answer: of one that is there, those from the fifth on and the bytes consumed
unfoldable pub of_numbers : List ℕ → Answer (List ℕ)
of_numbers [] = needs_more
of_numbers (zero ∷ xs) = success (drop 3 xs) (get_or xs 2 0)
of_numbers (suc zero ∷ xs) = needs_more
of_numbers (suc (suc status) ∷ xs) = refusal (get_or xs 0 0) (get_or xs 1 0)
