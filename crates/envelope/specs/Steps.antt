-- What the steps of a kind's decoder answer around its body.
use Rattle.std.specs.Prelude.{ℕ, ◌+◌, cond, List, ◌≡◌, ltb, eqb, ℤ, pos, negsuc, length, take, Result, Ok, Err}
use Rattle.protocol.specs.Decoded as D
use Rattle.protocol.specs.Decoded.{Decoded}
use Rattle.protocol.specs.declared.Message.{Message}
use Rattle.protocol.specs.declared.Rules.{Rules}
use Rattle.protocol.specs.declared.kinds.Line.{Line}
use Rattle.protocol.specs.Bytes.{number_at, signed_of}
use Rattle.protocol.specs.Decode.{closed, decoded_by}
use Rattle.protocol.specs.Each.{Each}
use Rattle.protocol.specs.Fields.{Field, Slot}
use Rattle.protocol.specs.Kinds.{Envelope, typed, untyped, bare}
use Rattle.protocol.specs.Reading.{and_then, read, read_each}
use Rattle.protocol.specs.Refusals.{length_too_small, length_above_limit}
use Rattle.protocol.specs.WellFormed.{body_start}
use Rattle.protocol.specs.Told.{number_of}
use Rattle.protocol.specs.declared.refusal.Unread.TheVariants as U
use Rattle.protocol.specs.declared.refusal.Unread.{Unread}
use Rattle.envelope.specs.Header as H
use Rattle.envelope.specs.Header.{Header}

-- ---- the envelope

-- the length's checks by a line's smallest length, .2, and its limit, .3. The length word stands at p, and there are `have` bytes
unfoldable pub end_of : Line → ℕ → ℕ → ℤ → Header
end_of l p have (negsuc n) = H.Refused length_too_small p
end_of l p have (pos n) =
    cond (ltb n l.2) (H.Refused length_too_small p)
    (cond (ltb l.3 n) (H.Refused length_above_limit p)
    (cond (ltb have (p + n)) H.NeedMore (H.Frame (p + n))))

-- where a frame of a kind with this line ends
unfoldable pub end_in : Envelope → Line → List ℕ → Header
end_in typed l s = cond (ltb (length s) 5) H.NeedMore (end_of l 1 (length s) (signed_of 4 (number_at 4 s 1)))
end_in untyped l s = cond (ltb (length s) 8) H.NeedMore (end_of l 0 (length s) (signed_of 4 (number_at 4 s 0)))
end_in bare l s = cond (eqb (length s) 0) H.NeedMore (H.Frame 1)

-- why the code has no frame, and where it says that the frame ends
abbrev pub unread : Unread → Header
unread U.NeedMore = H.NeedMore
unread (U.Refused r) = H.Refused (number_of r.refusal) r.place

abbrev pub headed : Result ℕ Unread → Header
headed (Ok end) = H.Frame end
headed (Err u) = unread u

-- f is the frame that the header tells of the buffer s
pub record Framed (h : Header) (s f : List ℕ) : Type 0 where
  pub header : h ≡ H.Frame (length f)
  pub bytes : f ≡ take (length f) s

-- ---- the body

-- what is left to read of a whole frame f from p on: these fields, and what is made of their slots
abbrev pub left_of : Rules → (xs : List Field) → (Each Slot xs → Message) → List ℕ → ℕ → Decoded
left_of rules xs make f p = decoded_by (and_then (read_each (read rules) xs f p) (λ slots q. closed f q (make slots))) (length f)

-- ---- both

-- a whole frame of the buffer s is read on; else it is answered why there is none
abbrev pub framed_by : Header → List ℕ → (List ℕ → Decoded) → Decoded
framed_by (H.Frame end) s body = body (take end s)
framed_by H.NeedMore s body = D.NeedMore
framed_by (H.Refused number place) s body = D.Refused number place

-- a buffer of a kind with this line and this body, and what is made of its slots: for a body that several kinds have
abbrev pub decode_made : Rules → Envelope → Line → (xs : List Field) → (Each Slot xs → Message) → List ℕ → Decoded
decode_made rules e l xs make s = framed_by (end_in e l s) s (λ f. left_of rules xs make f (body_start e))
