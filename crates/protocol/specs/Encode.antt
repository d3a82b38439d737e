-- Encoding (docs/FORMAT.md 9): which content an encoder's arguments are, what the encoder answers, and what the output then holds.
use Rattle.std.specs.Prelude.{ℕ, zero, suc, ◌+◌, cond, List, [], ◌∷◌, map, ◌++◌, ◌≡◌, leb, ltb, ℤ, pos, negsuc, length, take, drop}
use Rattle.std.proofs.Math.Option
use Rattle.std.proofs.Math.Option.{Option, some, none}
use Rattle.protocol.specs.Encoded as N
use Rattle.protocol.specs.Encoded.{Encoded}
use Rattle.protocol.specs.declared.data.FieldDescription.{FieldDescription}
use Rattle.protocol.specs.declared.response.GssEncResponse.{GssEncResponse}
use Rattle.protocol.specs.declared.response.GssEncResponse.TheVariants as Gss
use Rattle.protocol.specs.declared.response.SslResponse.{SslResponse}
use Rattle.protocol.specs.declared.response.SslResponse.TheVariants as Ssl
use Rattle.protocol.specs.Fields.{ItemContent}
use Rattle.protocol.specs.Kinds.{Kind, Mode, nullable, row_field, error_field, pair, ssl_accept, ssl_refuse, gss_accept, gss_refuse}
use Rattle.protocol.specs.Refusals.{length_above_limit, output_too_short, not_representable}
use Rattle.protocol.specs.Rules.{rules_of}
use Rattle.protocol.specs.WellFormed.{Contents, body_bytes, length_of, frame, all_able}

-- ---- which content the arguments are, if any

-- a list of numbers, as a list of items that are a number each
abbrev pub items : {A : Type 0} → List A → List (record { 0 : A; 1 : Unit {0} })
items xs = map (λ x. (x, tt)) xs

abbrev pub one_before : {A : Type 0} → A → Option (List A) → Option (List A)
one_before x xs = Option.map (λ ys. x ∷ ys) xs

abbrev pub or_none : {A B : Type 0} → (A → Option B) → Option A → Option B
or_none f none = none
or_none f (some x) = f x

-- values, from their lengths (-1 for NULL) and their joined bytes; none where a length is below -1, or where the lengths, NULL as
-- 0, do not add up to the bytes
unfoldable pub values_given : List ℤ → List ℕ → Option (List (ItemContent nullable))
values_given [] [] = some []
values_given [] (b ∷ bs) = none
values_given (pos n ∷ ls) bs = cond (leb n (length bs)) (one_before (some (take n bs), tt) (values_given ls (drop n bs))) none
values_given (negsuc zero ∷ ls) bs = one_before (none, tt) (values_given ls bs)
values_given (negsuc (suc n) ∷ ls) bs = none

-- an error's fields, from their codes, their strings' lengths and the joined bytes; none where codes and lengths differ in number, or
-- the lengths do not add up to the bytes
unfoldable pub error_fields_given : List ℕ → List ℕ → List ℕ → Option (List (ItemContent error_field))
error_fields_given [] [] [] = some []
error_fields_given [] [] (b ∷ bs) = none
error_fields_given [] (n ∷ ns) bs = none
error_fields_given (c ∷ cs) [] bs = none
error_fields_given (c ∷ cs) (n ∷ ns) bs = cond (leb n (length bs)) (one_before (c, (take n bs, tt)) (error_fields_given cs ns (drop n bs))) none

-- strings, from their lengths and their joined bytes; none where the lengths do not add up to the bytes
unfoldable pub texts_given : List ℕ → List ℕ → Option (List (List ℕ))
texts_given [] [] = some []
texts_given [] (b ∷ bs) = none
texts_given (n ∷ ns) bs = cond (leb n (length bs)) (one_before (take n bs) (texts_given ns (drop n bs))) none

-- strings that are a name and a value by turns; none where the last name has no value
unfoldable pub by_turns : List (List ℕ) → Option (List (ItemContent pair))
by_turns [] = some []
by_turns (name ∷ []) = none
by_turns (name ∷ value ∷ texts) = one_before (name, (value, tt)) (by_turns texts)

-- start-up arguments, from the lengths of names and values by turns and the joined bytes
unfoldable pub pairs_given : List ℕ → List ℕ → Option (List (ItemContent pair))
pairs_given lengths joined = or_none by_turns (texts_given lengths joined)

-- a row's fields, each with its name in a run of bytes; none where a name reaches outside the run
abbrev pub row_field_given : FieldDescription → List ℕ → ItemContent row_field
row_field_given d run = (
  take d.name.len (drop d.name.start run),
  (d.table_id, (d.column_id, (d.type_id, (d.type_size, (d.type_modifier, (d.format_code, tt)))))),
)

unfoldable pub row_fields_given : List FieldDescription → List ℕ → Option (List (ItemContent row_field))
row_fields_given [] run = some []
row_fields_given (d ∷ ds) run =
    cond (leb (d.name.start + d.name.len) (length run)) (one_before (row_field_given d run) (row_fields_given ds run)) none

-- an answer to a request for TLS or GSS encryption is a kind by itself
abbrev pub ssl_kind : SslResponse → Kind
ssl_kind Ssl.Accept = ssl_accept
ssl_kind Ssl.Refuse = ssl_refuse

abbrev pub gss_kind : GssEncResponse → Kind
gss_kind Gss.Accept = gss_accept
gss_kind Gss.Refuse = gss_refuse

-- ---- the answer and the output

-- refusal 10, then 4, then 9, each at place 0; else the size of what is written
unfoldable pub encoded_by : Mode → (k : Kind) → Option (Contents k) → ℕ → Encoded
encoded_by m k none room = N.Refused not_representable 0
encoded_by m k (some c) room =
    cond (all_able (rules_of m.mode) k c)
    (cond (ltb k.limit (length_of m.envelope (length (body_bytes k c)))) (N.Refused length_above_limit 0)
    (cond (ltb room (length (frame m.envelope k c))) (N.Refused output_too_short 0)
    (N.Done (length (frame m.envelope k c)))))
    (N.Refused not_representable 0)

-- success writes the frame at the output's start and keeps every later byte; a refusal changes nothing
unfoldable pub written_by : Mode → (k : Kind) → Option (Contents k) → Encoded → List ℕ → List ℕ
written_by m k none r out = out
written_by m k (some c) (N.Done n) out = frame m.envelope k c ++ drop n out
written_by m k (some c) (N.Refused number place) out = out

-- what an encoder of the kind k in the mode m promises of its answer r, and of its output before and after
pub record Encodes (m : Mode) (k : Kind) (given : Option (Contents k)) (out : List ℕ) (r : Encoded) (left : List ℕ) : Type 0 where
  pub answer : r ≡ encoded_by m k given (length out)
  pub output : left ≡ written_by m k given r out
