-- Law 2: every well-formed frame, followed by any bytes, is accepted, with its record, and exactly its own bytes are consumed.
use Prim.Native.Nat.{ℕ, ◌+◌, ◌≤◌}
use mathlib.Core.List.{List, [], ◌∷◌, ◌++◌, append_assoc}
use mathlib.Core.Option.{some}
use mathlib.Core.Path.{◌≡◌, refl, ap, ◌∙◌}
use native.Mathlib.Omega.{arith}
use borrow.Author.Tests.{le-ltb}
use lib.IntN.{pos}
use lib.ListN.{length, length-append}
use lib.Seq.{take-append_seam}
use Rattle.protocol.specs.declared.Rules.{Rules}
use Rattle.protocol.specs.Answers.{of_decoded}
use Rattle.protocol.specs.Bytes.{number_at, be}
use Rattle.protocol.specs.Decode.{framed, length_by, typed_by, untyped_by, bare_by, tag_at, header_by, header_of, read_body, decoded_by, decode_by, decode_of}
use Rattle.protocol.specs.Each.{Each, slots_of_each}
use Rattle.protocol.specs.Fields.{Field, Content, Slot, bytes, slot, least, one, counted, ended}
use Rattle.protocol.specs.Kinds.{Envelope, typed, untyped, bare, Kind, Mode}
use Rattle.protocol.specs.Reading.{got}
use Rattle.protocol.specs.WellFormed.{Contents, body_bytes, length_of, header, body_start, frame, WellFormed, record_of}
use Rattle.protocol.proofs.Numbers.{lower}
use Rattle.laws.specs.Statements.{Complete, the_decoder}
use Rattle.laws.proofs.Atoms.{byte_be}
use Rattle.laws.proofs.Bodies.{body_back}
use Rattle.laws.proofs.Headers.{tag_end, after_tag, header_is}
use Rattle.laws.proofs.Items.{atom_least_lem, each_least}
use Rattle.laws.proofs.Numbers.{length-be, at_be}
use Rattle.laws.proofs.SaneKinds.{Sane, row_sane}
use Rattle.laws.proofs.Table.{mode_found, kind_found, smallest_is}

-- ---- a body has at least the bytes that its kind's smallest length asks for

field_least : (x : Field) (c : Content x) → least x ≤ length (bytes x c)
unfolding bytes
field_least (one a) c = atom_least_lem a c
field_least (counted k i) c = simp (length-append, length-be) (omega arith)
field_least (ended i) c = simp length-append (omega arith)

large_enough : (rules : Rules) (m : Mode) (k : Kind) (c : Contents k) → WellFormed rules m k c → k.smallest ≤ length_of m.envelope (length (body_bytes k c))
unfolding body_bytes
large_enough rules m k c w = rw (smallest_is m w.known k w.kind) (above m.envelope (each_least bytes least field_least k.body c))
  where
    above : (e : Envelope) {a b : ℕ} → a ≤ b → length_of e a ≤ length_of e b
    above typed h = omega arith
    above untyped h = omega arith
    above bare h = omega arith

-- ---- the header of a frame is read as it

-- a length within its bounds, of a frame that is there, is let through
pub length_back : (k : Kind) (p start n : ℕ) (s : List ℕ) → k.smallest ≤ n → n ≤ k.limit → p + n ≤ length s → length_by k p start s (pos n) ≡ framed k start (p + n)
unfolding length_by
length_back k p start n s small most there = rw (le-ltb _ _ small, le-ltb _ _ most, le-ltb _ _ there) refl

module _ (k : Kind) (b t : List ℕ) where
  -- of a header and the body b, followed by t
  record Told (e : Envelope) : Type 0 where
    tag : tag_at e ((header e k.tag (length b) ++ b) ++ t) ≡ k.tag
    there : tag_end e ≤ length ((header e k.tag (length b) ++ b) ++ t)
    after : after_tag e (some k) ((header e k.tag (length b) ++ b) ++ t) ≡ framed k (body_start e) (length (header e k.tag (length b) ++ b))

  told : (e : Envelope) → Sane e k → k.smallest ≤ length_of e (length b) → length_of e (length b) ≤ k.limit → Told e
  unfolding header typed_by untyped_by bare_by
  told typed sane small most =
      let n = 4 + length b in
      let s = k.tag ∷ be 4 n ++ b ++ t in
      let first : number_at 1 s 0 ≡ k.tag = ap (λ (h : List ℕ). number_at 1 (h ++ (be 4 n ++ b ++ t)) 0) (byte_be k.tag sane.tag) ∙ at_be 1 k.tag [] (be 4 n ++ b ++ t) sane.tag in
      let word : number_at 4 s 1 ≡ n = rw (append_assoc (be 4 n) b t) (at_be 4 n (k.tag ∷ []) (b ++ t) (omega (arith, sane.limit))) in
      let long : length s ≡ 5 + length b + length t = simp (length-append, length-be) (omega arith) in
      let size : 1 + n ≡ length (k.tag ∷ be 4 n ++ b) = simp (length-append, length-be) (omega arith) in
      record {
        tag = first;
        there = omega arith;
        after = rw (le-ltb (length s) 5 (omega arith), word, lower 4 n (omega (arith, sane.limit)), length_back k 1 5 n s small most (omega arith)) (ap (framed k 5) size);
      }
  told untyped sane small most =
      let n = 8 + length b in
      let s = be 4 n ++ be 4 k.tag ++ b ++ t in
      let word : number_at 4 s 0 ≡ n = rw (append_assoc (be 4 n ++ be 4 k.tag) b t, append_assoc (be 4 n) (be 4 k.tag) (b ++ t)) (at_be 4 n [] (be 4 k.tag ++ (b ++ t)) (omega (arith, sane.limit))) in
      let code : number_at 4 s 4 ≡ k.tag = rw (append_assoc (be 4 n ++ be 4 k.tag) b t, append_assoc (be 4 n) (be 4 k.tag) (b ++ t)) (rw (length-be 4 n) at (at_be 4 k.tag (be 4 n) (b ++ t) sane.tag)) in
      let long : length s ≡ 8 + length b + length t = simp (length-append, length-be) (omega arith) in
      let size : 0 + n ≡ length (be 4 n ++ be 4 k.tag ++ b) = simp (length-append, length-be) (omega arith) in
      record {
        tag = code;
        there = omega arith;
        after = rw (word, lower 4 n (omega (arith, sane.limit)), length_back k 0 8 n s small most (omega arith)) (ap (framed k 8) size);
      }
  told bare sane small most =
      let first : number_at 1 (k.tag ∷ b ++ t) 0 ≡ k.tag = ap (λ (h : List ℕ). number_at 1 (h ++ (b ++ t)) 0) (byte_be k.tag sane.tag) ∙ at_be 1 k.tag [] (b ++ t) sane.tag in
      let size : 1 ≡ length (k.tag ∷ b) = omega (arith, sane.alone) in
      record { tag = first; there = omega arith; after = ap (framed k 1) size }

pub header_long : (e : Envelope) (tag n : ℕ) → length (header e tag n) ≡ body_start e
unfolding header
header_long typed tag n = simp length-be refl
header_long untyped tag n = simp (length-append, length-be) refl
header_long bare tag n = refl

-- ---- the whole frame

-- a well-formed frame, whatever follows it, has a header that tells where it ends
pub frame_back : (rules : Rules) (m : Mode) (k : Kind) (c : Contents k) (t : List ℕ) → WellFormed rules m k c → header_of rules (frame m.envelope k c ++ t) ≡ framed k (body_start m.envelope) (length (frame m.envelope k c))
unfolding header_of header_by frame
frame_back rules m k c t w =
    let e = m.envelope in
    let b = body_bytes k c in
    let r = told k b t e (row_sane m w.known k w.kind) (large_enough rules m k c w) w.within_limit in
    rw ((mode_found rules m).1 (w.known, w.mode), header_is e, r.tag, (kind_found m w.known k.tag k).1 (w.kind, refl), le-ltb _ _ r.there, r.after) refl

-- and a body that is read as its content
pub content_back : {X : Type 0} (rules : Rules) (m : Mode) (k : Kind) (c : Contents k) (make : Each Slot k.body → X) → WellFormed rules m k c → read_body rules k make (frame m.envelope k c) (body_start m.envelope) ≡ got (make (slots_of_each bytes slot k.body (body_start m.envelope) c)) (length (frame m.envelope k c))
unfolding frame
content_back rules m k c make w =
    let e = m.envelope in
    let b = body_bytes k c in
    let h = header e k.tag (length b) in
    let sane = row_sane m w.known k w.kind in
    let r = body_back rules k make c h sane.fields sane.last w.in_range w.writable in
    rw (header_long e k.tag (length b)) at (rw (← length-append h b) at r)

pub complete : Complete the_decoder
unfolding decode_of decode_by decoded_by record_of of_decoded
complete rules m k c t w = rw (frame_back rules m k c t w, take-append_seam (frame m.envelope k c) t, content_back rules m k c k.message w) refl
