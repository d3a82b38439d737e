-- Decoding: the header's checks in their order, then the body from left to right (docs/FORMAT.md 3).
use Rattle.std.specs.Prelude.{ℕ, ◌+◌, cond, List, ltb, eqb, ℤ, pos, negsuc, length, take}
use Rattle.std.proofs.Math.Option.{Option, some, none}
use Rattle.protocol.specs.Decoded as D
use Rattle.protocol.specs.Decoded.{Decoded}
use Rattle.protocol.specs.declared.Message.{Message}
use Rattle.protocol.specs.declared.Rules.{Rules}
use Rattle.protocol.specs.Bytes.{number_at, signed_of}
use Rattle.protocol.specs.Each.{Each}
use Rattle.protocol.specs.Fields.{Slot}
use Rattle.protocol.specs.Kinds.{Envelope, typed, untyped, bare, Kind, Mode, mode_of, kind_in}
use Rattle.protocol.specs.Reading.{Read, got, bad, and_then, read, read_each}
use Rattle.protocol.specs.Refusals.{mode_unknown, type_unknown, length_too_small, length_above_limit, bytes_left}

-- ---- the header

-- need-more, a refusal's number and place, or a whole frame: its kind, where its body starts and where it ends
pub data Header : Type 0 where
  more : Header
  refuse : ℕ → ℕ → Header
  framed : Kind → ℕ → ℕ → Header

-- the length's checks. The length word stands at p, and counts itself and all that follows it
unfoldable pub length_by : Kind → ℕ → ℕ → List ℕ → ℤ → Header
length_by k p start s (negsuc n) = refuse length_too_small p
length_by k p start s (pos n) =
    cond (ltb n k.smallest) (refuse length_too_small p)
    (cond (ltb k.limit n) (refuse length_above_limit p)
    (cond (ltb (length s) (p + n)) more (framed k start (p + n))))

-- where what tells a frame's kind stands, and where it is refused: a type byte, a code or an answer byte
abbrev pub tag_place : Envelope → ℕ
tag_place typed = 0
tag_place untyped = 4
tag_place bare = 0

-- modes 0 and 1: type byte, length, body
unfoldable pub typed_by : Option Kind → List ℕ → Header
typed_by none s = refuse type_unknown (tag_place typed)
typed_by (some k) s = cond (ltb (length s) 5) more (length_by k 1 5 s (signed_of 4 (number_at 4 s 1)))

-- modes 2 and 5: length, code, body
unfoldable pub untyped_by : Option Kind → List ℕ → Header
untyped_by none s = refuse type_unknown (tag_place untyped)
untyped_by (some k) s = length_by k 0 8 s (signed_of 4 (number_at 4 s 0))

-- modes 3 and 4: one byte
unfoldable pub bare_by : Option Kind → Header
bare_by none = refuse type_unknown (tag_place bare)
bare_by (some k) = framed k 1 1

-- the type byte, code or answer byte
abbrev pub tag_at : Envelope → List ℕ → ℕ
tag_at typed s = number_at 1 s (tag_place typed)
tag_at untyped s = number_at 4 s (tag_place untyped)
tag_at bare s = number_at 1 s (tag_place bare)

-- kind is the kind that the tag tells, if any
unfoldable pub header_in : Envelope → Option Kind → List ℕ → Header
header_in typed kind s = cond (eqb (length s) 0) more (typed_by kind s)
header_in untyped kind s = cond (ltb (length s) 8) more (untyped_by kind s)
header_in bare kind s = cond (eqb (length s) 0) more (bare_by kind)

unfoldable pub header_by : Option Mode → List ℕ → Header
header_by none s = refuse mode_unknown 0
header_by (some m) s = header_in m.envelope (kind_in m (tag_at m.envelope s)) s

unfoldable pub header_of : Rules → List ℕ → Header
header_of rules s = header_by (mode_of rules) s

-- ---- the body

-- after the last field: bytes left over are refused
unfoldable pub closed : {X : Type 0} → List ℕ → ℕ → X → Read X
closed f p x = cond (ltb p (length f)) (bad bytes_left p) (got x p)

-- the body of a whole frame f from p on, and what is made of its slots
abbrev pub read_body : {X : Type 0} → Rules → (k : Kind) → (Each Slot k.body → X) → List ℕ → ℕ → Read X
read_body rules k make f p = and_then (read_each (read rules) k.body f p) (λ slots q. closed f q (make slots))

abbrev pub body_of : Rules → Kind → List ℕ → ℕ → Read Message
body_of rules k f p = read_body rules k k.message f p

-- ---- both

unfoldable pub decoded_by : Read Message → ℕ → Decoded
decoded_by (got m next) end = D.Record m end
decoded_by (bad number place) end = D.Refused number place

unfoldable pub decode_by : Rules → List ℕ → Header → Decoded
decode_by rules s more = D.NeedMore
decode_by rules s (refuse number place) = D.Refused number place
decode_by rules s (framed k start end) = decoded_by (body_of rules k (take end s) start) end

-- a buffer whose tag tells the kind k: its length's checks, then its body
abbrev pub decode_as : Rules → Envelope → Kind → List ℕ → Decoded
decode_as rules e k s = decode_by rules s (header_in e (some k) s)

-- a buffer in the mode m: its tag tells the kind, if any
unfoldable pub decode_in : Rules → Mode → List ℕ → Decoded
decode_in rules m s = decode_by rules s (header_by (some m) s)

unfoldable pub decode_of : Rules → List ℕ → Decoded
decode_of rules s = decode_by rules s (header_of rules s)
