-- Useless builds and tempting shortcuts: what a decoder, an element call or an encoder must not do.
-- They are here to be refused: Rejected.antt says which statement each breaks, and the must-fail edits put each in the place of what is proved.
use Rattle.std.specs.Prelude.{ℕ, ◌+◌, cond, ◌&&◌, List, ◌++◌, eqb, ltb, length, take, drop}
use Rattle.std.proofs.Math.Option.{Option, some, none}
use Rattle.protocol.specs.Decoded as D
use Rattle.protocol.specs.Decoded.{Decoded}
use Rattle.protocol.specs.Encoded as N
use Rattle.protocol.specs.Encoded.{Encoded}
use Rattle.protocol.specs.Found.{Found}
use Rattle.protocol.specs.declared.Message.TheVariants as M
use Rattle.protocol.specs.declared.Rules.{Rules}
use Rattle.protocol.specs.Bytes.{number_at}
use Rattle.protocol.specs.Decode.{Header, more, refuse, framed, header_of, closed, body_of, decoded_by, decode_of}
use Rattle.protocol.specs.Elements.{element_of}
use Rattle.protocol.specs.Encode.{written_by}
use Rattle.protocol.specs.Fields.{Field, one, counted, ended, Slot}
use Rattle.protocol.specs.Kinds.{Kind, Mode}
use Rattle.protocol.specs.Reading.{Read, got, and_then, read_each, read_count, pass_items, read}
use Rattle.protocol.specs.Refusals.{type_unknown, length_above_limit, output_too_short, not_representable}
use Rattle.protocol.specs.Rules.{rules_of}
use Rattle.protocol.specs.WellFormed.{Contents, frame}

-- ---- decoders

abbrev pub refuses_everything : Rules → List ℕ → Decoded
refuses_everything rules s = D.Refused type_unknown 0

abbrev pub always_waits : Rules → List ℕ → Decoded
always_waits rules s = D.NeedMore

-- a single fixed record: Sync in five bytes, whatever is there
abbrev pub fixed_record : Rules → List ℕ → Decoded
fixed_record rules s = D.Record M.Sync 5

-- every buffer is read as a frontend's
abbrev pub ignores_the_mode : Rules → List ℕ → Decoded
ignores_the_mode rules s = decode_of (rules_of 0) s

-- an invented byte count
abbrev five : Decoded → Decoded
five (D.Record m n) = D.Record m 5
five D.NeedMore = D.NeedMore
five (D.Refused number place) = D.Refused number place

abbrev pub invented_count : Rules → List ℕ → Decoded
invented_count rules s = five (decode_of rules s)

-- a string bounded by the buffer and not by the frame: the body is read from all that is there
abbrev in_the_buffer : Rules → List ℕ → Header → Decoded
in_the_buffer rules s more = D.NeedMore
in_the_buffer rules s (refuse number place) = D.Refused number place
in_the_buffer rules s (framed k start end) = decoded_by (body_of rules k s start) end

abbrev pub bounded_by_the_buffer : Rules → List ℕ → Decoded
bounded_by_the_buffer rules s = in_the_buffer rules s (header_of rules s)

-- the body awaited before a hopeless length, which stands at the refusal's place, is refused
abbrev awaited : List ℕ → Decoded → Decoded
awaited s (D.Record m n) = D.Record m n
awaited s D.NeedMore = D.NeedMore
awaited s (D.Refused number place) =
    cond (eqb number length_above_limit && ltb (length s) (place + number_at 4 s place)) D.NeedMore (D.Refused number place)

abbrev pub waits_for_the_body : Rules → List ℕ → Decoded
waits_for_the_body rules s = awaited s (decode_of rules s)

-- a count taken at its word: no test whether that many of the smallest elements fit into what is left
abbrev at_its_word : Rules → (x : Field) → List ℕ → ℕ → Read (Slot x)
at_its_word rules (one a) f p = read rules (one a) f p
at_its_word rules (counted k i) f p = and_then (read_count k 0 f p) (λ l q. and_then (pass_items rules i l.count f q) (λ _ e. got l e))
at_its_word rules (ended i) f p = read rules (ended i) f p

abbrev word_by : Rules → List ℕ → Header → Decoded
word_by rules s more = D.NeedMore
word_by rules s (refuse number place) = D.Refused number place
word_by rules s (framed k start end) =
    let f = take end s in
    decoded_by (and_then (read_each (at_its_word rules) k.body f start) (λ v q. closed f q (k.message v))) end

abbrev pub count_at_its_word : Rules → List ℕ → Decoded
count_at_its_word rules s = word_by rules s (header_of rules s)

-- ---- an element call

abbrev pub first_for_each_number : Rules → List ℕ → ℕ → ℕ → Found
first_for_each_number rules s l n = element_of rules s l 0

-- ---- what an encoder answers, in the place of encoded_by

abbrev pub refuses_to_write : (m : Mode) (k : Kind) → Option (Contents k) → ℕ → Encoded
refuses_to_write m k given room = N.Refused not_representable 0

-- ---- what it leaves in the output, in the place of written_by

-- nothing is written, whatever is reported
abbrev pub writes_nothing : (m : Mode) (k : Kind) → Option (Contents k) → Encoded → List ℕ → List ℕ
writes_nothing m k given r out = out

-- the bytes behind the frame are lost
abbrev pub cuts_the_output : (m : Mode) (k : Kind) → Option (Contents k) → Encoded → List ℕ → List ℕ
cuts_the_output m k given r out = written_by m k given r (take 1 out)

-- the header is written before the output is found too short
abbrev pub header_first : (m : Mode) (k : Kind) → Option (Contents k) → Encoded → List ℕ → List ℕ
header_first m k none r out = out
header_first m k (some c) (N.Done n) out = frame m.envelope k c ++ drop n out
header_first m k (some c) (N.Refused number place) out =
    cond (eqb number output_too_short) (take (length out) (take 5 (frame m.envelope k c)) ++ drop 5 out) out
