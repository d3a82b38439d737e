-- What is proved of encoding: a page to read by itself. An encoder of the kind k in the mode m is a function of the content that its arguments are,
-- if they are one, and of the output before; it gives its answer and the output after. The theorems hold of `the_encoder`, which is what every
-- encoder's contract says. Crate by_kind (ByName.antt) says the round trip kind by kind, by the names of the arguments.
use Rattle.std.specs.Prelude.{ℕ, ◌+◌, ◌*◌, ◌≤◌, true, List, [], ◌∷◌, ◌++◌, ◌⊎◌, ◌↔◌, ◌≡◌, ℤ, length, take, drop}
use Rattle.std.proofs.Math.Option.{Option, some, none}
use Rattle.protocol.specs.Encoded.{Encoded}
use Rattle.protocol.specs.declared.Rules.{Rules}
use Rattle.protocol.specs.declared.data.FieldDescription.{FieldDescription}
use Rattle.protocol.specs.Answers.{success, refusal, Unsuccessful, of_decoded, of_encoded}
use Rattle.protocol.specs.Bytes.{Bytes, part_of}
use Rattle.protocol.specs.Each.{slots_of_each}
use Rattle.protocol.specs.Encode.{items, values_given, error_fields_given, pairs_given, row_fields_given, encoded_by, Encodes}
use Rattle.protocol.specs.Encode.{written_by}
use Rattle.protocol.specs.Fields.{ItemContent, ItemsInRange, bytes, slot}
use Rattle.protocol.specs.Kinds.{Kind, Mode, modes, IsIn, oid, format, nullable, row_field, error_field, pair}
use Rattle.protocol.specs.Refusals.{length_above_limit, output_too_short, not_representable}
use Rattle.protocol.specs.Rules.{rules_of}
use Rattle.protocol.specs.WellFormed.{Contents, body_bytes, body_start, length_of, frame, AllInRange, all_able, record_of}
use Rattle.laws.specs.Arguments.{nth, Some, All, Unsigned, Signed, TypedField, itself, size_of, total, BelowNull, value_at, Outside}
use Rattle.laws.specs.Items.{found, Answers}
use Rattle.laws.specs.Places.{FieldsPlaced}
use Rattle.laws.specs.Statements.{Decoder, ElementCall, IsNumbered}

pub record Outcome : Type 0 where
  pub answer : Encoded
  pub output : List ℕ

abbrev pub Encoder : Type 0
Encoder = (m : Mode) (k : Kind) → Option (Contents k) → List ℕ → Outcome

-- one that answers by `answered` of the output's room, and leaves what `written` says of that answer
abbrev pub encoder_with :
    ((m : Mode) (k : Kind) → Option (Contents k) → ℕ → Encoded)
    → ((m : Mode) (k : Kind) → Option (Contents k) → Encoded → List ℕ → List ℕ)
    → Encoder
encoder_with answered written m k given out = record {
  answer = answered m k given (length out);
  output = written m k given (answered m k given (length out)) out;
}

abbrev pub the_encoder : Encoder
the_encoder = encoder_with encoded_by written_by

-- 0. Every encoder's contract says that it does what `the_encoder` does.
abbrev pub Contracts : Encoder → Type 0
Contracts encode =
    (m : Mode) (k : Kind) (given : Option (Contents k)) (out : List ℕ) (r : Encoded) (left : List ℕ) → Encodes m k given out r left
    → (r ≡ (encode m k given out).answer) × (left ≡ (encode m k given out).output)

-- 1. Exactly. The arguments are a content that can be written; its length is within the limit; and there is room.
abbrev pub Representable : Mode → (k : Kind) → Option (Contents k) → Type 0
Representable m k given = (c : Contents k) × (given ≡ some c) × (all_able (rules_of m.mode) k c ≡ true)

abbrev pub WithinLimit : Mode → (k : Kind) → Option (Contents k) → Type 0
WithinLimit m k given = (c : Contents k) × (given ≡ some c) × (length_of m.envelope (length (body_bytes k c)) ≤ k.limit)

abbrev pub HasRoom : Mode → (k : Kind) → Option (Contents k) → List ℕ → Type 0
HasRoom m k given out = (c : Contents k) × (given ≡ some c) × (length (frame m.envelope k c) ≤ length out)

-- Refusal 10 exactly where they are not representable, then 4 exactly where the length is above the limit, then 9 exactly where there is no room,
-- each at place 0; else it succeeds, and the output begins with the frame of the content.
pub record EncodesExactly (encode : Encoder) (m : Mode) (k : Kind) (given : Option (Contents k)) (out : List ℕ) : Type 0 where
  pub ten : (of_encoded (encode m k given out).answer ≡ refusal not_representable 0) ↔ (Representable m k given → ⊥)
  pub four : (of_encoded (encode m k given out).answer ≡ refusal length_above_limit 0) ↔ (Representable m k given × (WithinLimit m k given → ⊥))
  pub nine :
      (of_encoded (encode m k given out).answer ≡ refusal output_too_short 0)
      ↔ (Representable m k given × WithinLimit m k given × (HasRoom m k given out → ⊥))
  pub done : (n : ℕ)
      → (of_encoded (encode m k given out).answer ≡ success tt n)
      ↔ ((Representable m k given × WithinLimit m k given × HasRoom m k given out)
      × ((c : Contents k) → given ≡ some c → n ≡ length (frame m.envelope k c)))
  pub writes : (n : ℕ) (c : Contents k) → given ≡ some c
      → of_encoded (encode m k given out).answer ≡ success tt n
      → take n (encode m k given out).output ≡ frame m.envelope k c

abbrev pub Exactly : Encoder → Type 0
Exactly encode = (m : Mode) (k : Kind) (given : Option (Contents k)) (out : List ℕ) → EncodesExactly encode m k given out

-- 2. Unchanged. Refused, the output is what it was; and behind what was written it always is.
pub record KeepsTheRest (encode : Encoder) (m : Mode) (k : Kind) (given : Option (Contents k)) (out : List ℕ) : Type 0 where
  pub refused : Unsuccessful (of_encoded (encode m k given out).answer) → (encode m k given out).output ≡ out
  pub later : (n : ℕ) → of_encoded (encode m k given out).answer ≡ success tt n → drop n (encode m k given out).output ≡ drop n out

abbrev pub Unchanged : Encoder → Type 0
Unchanged encode = (m : Mode) (k : Kind) (given : Option (Contents k)) (out : List ℕ) → KeepsTheRest encode m k given out

-- 3. Numbered. A refusal has one of the numbers 4, 9 and 10, and place 0; and it writes nothing.
abbrev pub encode_numbers : List ℕ
encode_numbers = 4 ∷ 9 ∷ 10 ∷ []

abbrev pub EncodesNumbered : Encoder → Type 0
EncodesNumbered encode =
    (m : Mode) (k : Kind) (given : Option (Contents k)) (out : List ℕ)
    → IsNumbered encode_numbers (of_encoded (encode m k given out).answer) × ((of_encoded (encode m k given out).answer).place ≡ 0)

-- 4. These leave one encoder: whatever meets them gives the same answers and leaves the same output.
abbrev pub OneEncoder : Encoder → Type 0
OneEncoder encode =
    (other : Encoder) → Exactly other → Unchanged other
    → (m : Mode) (k : Kind) (given : Option (Contents k)) (out : List ℕ)
    → (of_encoded (other m k given out).answer ≡ of_encoded (encode m k given out).answer)
    × ((other m k given out).output ≡ (encode m k given out).output)

-- 5. Round trip. What was written, followed by any bytes, decodes, in every mode that has the kind, to the message of the content and consumes its
-- own bytes only; each field's part is the content's, and each list's elements are the content's items.
pub record Decodes (decode : Decoder) (call : ElementCall) (rules : Rules) (m : Mode) (k : Kind) (c : Contents k) (s : List ℕ) (n : ℕ) : Type 0 where
  pub decoded : of_decoded (decode rules s) ≡ success (record_of m.envelope k c) n
  pub placed : FieldsPlaced s k.body (body_start m.envelope) (slots_of_each bytes slot k.body (body_start m.envelope) c) c
  pub elements : (l i : ℕ) → Answers s (found k.body (body_start m.envelope) c l i) (call rules s l i)

abbrev pub RoundTrip : Encoder → Decoder → ElementCall → Type 0
RoundTrip encode decode call =
    (m : Mode) (k : Kind) (c : Contents k) (out t : List ℕ) (n : ℕ) → IsIn m modes → IsIn k m.kinds → AllInRange k c
    → of_encoded (encode m k (some c) out).answer ≡ success tt n
    → (rules : Rules) (reads : Mode) → IsIn reads modes → reads.mode ≡ rules.mode → IsIn k reads.kinds
    → Decodes decode call rules reads k c (take n (encode m k (some c) out).output ++ t) n

-- 6. Which content lists of arguments are. Values: one for each length, NULL exactly where the length is -1, else the bytes of the joined run after
-- the earlier lengths, NULL as 0. They are none exactly where a length is below -1 or the lengths do not add up to the joined bytes.
pub record ValuesAre (lengths : List ℤ) (joined : List ℕ) : Type 0 where
  pub items : (cs : List (ItemContent nullable)) → values_given lengths joined ≡ some cs
      → (i : ℕ) (z : ℤ) → nth lengths i ≡ some z → nth cs i ≡ some (value_at z (total size_of (take i lengths)) joined, tt)
  pub many : (cs : List (ItemContent nullable)) → values_given lengths joined ≡ some cs → length cs ≡ length lengths
  pub none : (values_given lengths joined ≡ none) ↔ (Some BelowNull lengths ⊎ (total size_of lengths ≡ length joined → ⊥))

abbrev pub Values : Type 0
Values = (lengths : List ℤ) (joined : List ℕ) → ValuesAre lengths joined

-- An error's fields: one for each code, with its string's bytes of the joined run after the earlier lengths. They are none exactly where codes and
-- lengths differ in number, or the lengths do not add up to the joined bytes.
pub record ErrorFieldsAre (codes lengths joined : List ℕ) : Type 0 where
  pub items : (cs : List (ItemContent error_field)) → error_fields_given codes lengths joined ≡ some cs
      → (i code n : ℕ) → nth codes i ≡ some code → nth lengths i ≡ some n
      → nth cs i ≡ some (code, (take n (drop (total itself (take i lengths)) joined), tt))
  pub many : (cs : List (ItemContent error_field)) → error_fields_given codes lengths joined ≡ some cs → length cs ≡ length codes
  pub none : (error_fields_given codes lengths joined ≡ none) ↔ ((length codes ≡ length lengths → ⊥) ⊎ (total itself lengths ≡ length joined → ⊥))

abbrev pub ErrorFields : Type 0
ErrorFields = (codes lengths joined : List ℕ) → ErrorFieldsAre codes lengths joined

-- Start-up arguments: one for each two lengths, its name's bytes and its value's of the joined run, each after the earlier lengths. They are none
-- exactly where the lengths are odd in number, or do not add up to the joined bytes.
pub record PairsAre (lengths joined : List ℕ) : Type 0 where
  pub items : (cs : List (ItemContent pair)) → pairs_given lengths joined ≡ some cs
      → (i name value : ℕ) → nth lengths (2 * i) ≡ some name → nth lengths (2 * i + 1) ≡ some value
      → nth cs i
      ≡ some (take name (drop (total itself (take (2 * i) lengths)) joined), (take value (drop (total itself (take (2 * i + 1) lengths)) joined), tt))
  pub many : (cs : List (ItemContent pair)) → pairs_given lengths joined ≡ some cs → length lengths ≡ 2 * length cs
  pub none : (pairs_given lengths joined ≡ none) ↔ (((half : ℕ) → length lengths ≡ 2 * half → ⊥) ⊎ (total itself lengths ≡ length joined → ⊥))

abbrev pub Pairs : Type 0
Pairs = (lengths joined : List ℕ) → PairsAre lengths joined

-- A row's fields: one for each record, its name's part of the run and its numbers; names may overlap. They are none exactly where a name reaches
-- outside.
pub record RowFieldIs (run : List ℕ) (d : FieldDescription) (c : ItemContent row_field) : Type 0 where
  pub name : c.0 ≡ part_of run d.name.start d.name.len
  pub table_id : c.1.0 ≡ d.table_id
  pub column_id : c.1.1.0 ≡ d.column_id
  pub type_id : c.1.1.1.0 ≡ d.type_id
  pub type_size : c.1.1.1.1.0 ≡ d.type_size
  pub type_modifier : c.1.1.1.1.1.0 ≡ d.type_modifier
  pub format_code : c.1.1.1.1.1.1.0 ≡ d.format_code

pub record RowFieldsAre (fields : List FieldDescription) (run : List ℕ) : Type 0 where
  pub items : (cs : List (ItemContent row_field)) → row_fields_given fields run ≡ some cs
      → (i : ℕ) (d : FieldDescription) → nth fields i ≡ some d → (c : ItemContent row_field) × (nth cs i ≡ some c) × RowFieldIs run d c
  pub many : (cs : List (ItemContent row_field)) → row_fields_given fields run ≡ some cs → length cs ≡ length fields
  pub none : (row_fields_given fields run ≡ none) ↔ Some (Outside run) fields

abbrev pub RowFields : Type 0
RowFields = (fields : List FieldDescription) (run : List ℕ) → RowFieldsAre fields run

-- Oids and formats: one for each number.
abbrev pub NumberItems : Type 1
NumberItems = (A : Type 0) (xs : List A) (i : ℕ) (x : A) → nth xs i ≡ some x → nth (items xs) i ≡ some (x, tt)

-- 7. Arguments of their types are in range, as the round trip asks of a content.
pub record ArgumentsInRange : Type 0 where
  pub oids : (xs : List ℕ) → All (Unsigned 4) xs → ItemsInRange oid (items xs)
  pub formats : (zs : List ℤ) → All (Signed 2) zs → ItemsInRange format (items zs)
  pub values : (lengths : List ℤ) (joined : List ℕ) (cs : List (ItemContent nullable))
      → All (Signed 4) lengths → Bytes joined → values_given lengths joined ≡ some cs → ItemsInRange nullable cs
  pub error_fields : (codes lengths joined : List ℕ) (cs : List (ItemContent error_field))
      → Bytes codes → Bytes joined → error_fields_given codes lengths joined ≡ some cs → ItemsInRange error_field cs
  pub pairs : (lengths joined : List ℕ) (cs : List (ItemContent pair)) → Bytes joined → pairs_given lengths joined ≡ some cs → ItemsInRange pair cs
  pub row_fields : (fields : List FieldDescription) (run : List ℕ) (cs : List (ItemContent row_field))
      → All TypedField fields → Bytes run → row_fields_given fields run ≡ some cs → ItemsInRange row_field cs
