-- Law 1: what is accepted is a well-formed frame of the mode, and the answer is that frame's record and length.
use Prim.Native.Nat.{ℕ, ◌+◌, ◌≤◌}
use mathlib.Core.List.{List, [], ◌∷◌}
use mathlib.Core.Path.{◌≡◌, refl, ap, sym, ◌∙◌}
use native.Mathlib.Omega.{arith}
use lib.IntN.{pos}
use lib.ListN.{length, take, drop, length-drop, take-append-drop}
use lib.Seq.{length-take-le, take-take, take-add}
use Rattle.protocol.specs.Decoded as D
use Rattle.protocol.specs.declared.Message.{Message}
use Rattle.protocol.specs.declared.Rules.{Rules}
use Rattle.protocol.specs.Bytes.{Bytes, number_at, be, signed_of, bits_of}
use Rattle.protocol.specs.Decode.{Header, more, refuse, framed, tag_at, header_of, read_body, decoded_by, decode_by, decode_of}
use Rattle.protocol.specs.Kinds.{Envelope, typed, untyped, bare, Kind}
use Rattle.protocol.specs.Reading.{Read, got, bad}
use Rattle.protocol.specs.WellFormed.{body_bytes, length_of, header, body_start, frame, record_of}
use Rattle.protocol.proofs.Basics.{zero_one}
use Rattle.protocol.proofs.Framed.{Framing, Framed, framed_is, framed_ends}
use Rattle.laws.specs.Statements.{Accepted, Sound, the_decoder}
use Rattle.laws.proofs.Answered.{recorded}
use Rattle.laws.proofs.Atoms.{byte_be}
use Rattle.laws.proofs.Bodies.{body_was}
use Rattle.laws.proofs.Numbers.{bytes_take, be_at, number_at_below, bits_signed}
use Rattle.laws.proofs.SaneKinds.{Sane, row_sane}
use Rattle.laws.proofs.Table.{mode_found, kind_found}

-- ---- a header that was read is the bytes before the body

-- the word at p, read as a length, is the length's bytes
word_was : (p n : ℕ) (s : List ℕ) → Bytes s → p + 4 ≤ length s → signed_of 4 (number_at 4 s p) ≡ pos n → take 4 (drop p s) ≡ be 4 n
unfolding bits_of
word_was p n s b l e =
    let same : number_at 4 s p ≡ n = sym (ap (bits_of 4) (sym e) ∙ bits_signed 3 (number_at 4 s p) (number_at_below 4 p s b l)) in
    sym (be_at 4 p s b l) ∙ ap (be 4) same

-- the one byte at the start is the tag's
tag_was : (tag : ℕ) (s : List ℕ) → Bytes s → 1 ≤ length s → tag ≡ number_at 1 s 0 → take 1 s ≡ tag ∷ []
tag_was tag s b l e = sym (be_at 1 0 s b l) ∙ ap (be 1) (sym e) ∙ sym (byte_be tag (rw e (number_at_below 1 0 s b l)))

module _ (s : List ℕ) (b : Bytes s) (k : Kind) (end n : ℕ) where
  record Was (e : Envelope) : Type 0 where
    bytes : take (body_start e) s ≡ header e k.tag n
    within : length_of e n ≤ k.limit

  -- n bytes stand between the body's start and the frame's end
  header_was : (e : Envelope) → Sane e k → k.tag ≡ tag_at e s → Framing e k s end → end ≡ body_start e + n → Was e
  unfolding header
  header_was typed sane tag f size =
      let is : f.1.n ≡ 4 + n = omega (arith, f.1.ends) in
      let word = word_was 1 f.1.n s b f.0 f.1.word in
      record { bytes = take-add 1 4 s ∙ rw (tag_was k.tag s b (omega (arith, f.0)) tag, word, is) refl; within = omega (arith, f.1.limit) }
  header_was untyped sane tag f size =
      let is : f.1.n ≡ 8 + n = omega (arith, f.1.ends) in
      let word = word_was 0 f.1.n s b (omega (arith, f.0)) f.1.word in
      let code = sym (be_at 4 4 s b f.0) ∙ ap (be 4) (sym tag) in
      record { bytes = take-add 4 4 s ∙ rw (word, code, is) refl; within = omega (arith, f.1.limit) }
  header_was bare sane tag f size = record { bytes = tag_was k.tag s b f.0 tag; within = omega (arith, f.1, sane.alone) }

-- ---- the whole frame

module _ (rules : Rules) (s : List ℕ) (b : Bytes s) where
  accepted : (k : Kind) (start end : ℕ) → Framed rules s k start end → (r : Message) (q : ℕ) → read_body rules k k.message (take end s) start ≡ got r q → Accepted rules s r end
  unfolding frame record_of
  accepted k start end h r q e =
      let env = h.mode.envelope in
      let f = take end s in
      let ends = framed_ends rules s k start end h in
      let mode = (mode_found rules h.mode).0 h.known in
      let kind = (kind_found h.mode mode.0 (tag_at env s) k).0 h.tag in
      let sane = row_sane h.mode mode.0 k kind.0 in
      let long : length f ≡ end = length-take-le end s ends.1 in
      let w = body_was rules f (bytes_take end s b) k k.message (body_start env) sane.fields (omega (arith, ends.0)) r q (rw h.starts at e) in
      let body = body_bytes k w.content in
      let size : end ≡ body_start env + length body = omega (arith, simp length-drop at (ap length w.split), ends.0) in
      let header = header_was s b k end (length body) env sane kind.1 h.framing size in
      let whole : f ≡ frame env k w.content = sym (take-append-drop (body_start env) f) ∙ rw (take-take (body_start env) end s ends.0, header.bytes, w.split) refl in
      record {
        mode = h.mode;
        kind = k;
        content = w.content;
        well_formed = record { known = mode.0; mode = mode.1; kind = kind.0; in_range = w.in_range; writable = w.writable; within_limit = header.within };
        bytes = whole;
        is = w.is;
        size = sym long ∙ ap length whole;
        within = ends.1;
      }

  read_by : (k : Kind) (start end : ℕ) → Framed rules s k start end → (r : Message) (n : ℕ) (x : Read Message) → read_body rules k k.message (take end s) start ≡ x → decoded_by x end ≡ D.Record r n → Accepted rules s r n
  unfolding decoded_by
  read_by k start end h r n (bad number place) x e = absurd (zero_one cc)
  read_by k start end h r n (got m q) x e =
      let em : m ≡ r = cc in
      let en : end ≡ n = cc in
      rw (← en) (accepted k start end h r q (x ∙ ap (λ (m : Message). got m q) em))

  header_by_lem : (h : Header) → header_of rules s ≡ h → (r : Message) (n : ℕ) → decode_by rules s h ≡ D.Record r n → Accepted rules s r n
  unfolding decode_by
  header_by_lem more h r n e = absurd (zero_one cc)
  header_by_lem (refuse number place) h r n e = absurd (zero_one cc)
  header_by_lem (framed k start end) h r n e = read_by k start end (framed_is rules s k start end h) r n (read_body rules k k.message (take end s) start) refl e

pub sound : Sound the_decoder
unfolding decode_of
sound rules s r n b e = header_by_lem rules s b (header_of rules s) refl r n (recorded e)
