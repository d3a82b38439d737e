-- Law 7: decoding refuses exactly where a fault stands. A refusal from 5 to 8 has right contents before it, up to its place, and there the fault that
-- the table names; one from 1 to 4 does so of the header. And law 8: a buffer has one fault at most.
use Prim.Native.Nat.{ℕ, ◌+◌, ◌≤◌}
use mathlib.Core.Bool.{Bool, true, false, cond}
use mathlib.Core.List.{List, [], ◌∷◌}
use mathlib.Core.Logic.{inl, inr}
use mathlib.Core.Option.{Option, some, none}
use mathlib.Core.Path.{◌≡◌, refl, ap, sym, ◌∙◌}
use native.Mathlib.Omega.{arith}
use borrow.Author.Tests.{ltb-true, ltb-false, lt-ltb, le-ltb}
use lib.Dec.{T, ltb}
use lib.IntN.{ℤ, pos, negsuc}
use lib.ListN.{length, take, drop, length-drop}
use lib.Seq.{length-take-le, drop-length}
use Rattle.protocol.specs.Decoded as D
use Rattle.protocol.specs.declared.Message.{Message}
use Rattle.protocol.specs.declared.Rules.{Rules}
use Rattle.protocol.specs.Answers.{of_decoded}
use Rattle.protocol.specs.Bytes.{Bytes, number_at, signed_of}
use Rattle.protocol.specs.Decode.{Header, more, refuse, framed, length_by, typed_by, untyped_by, bare_by, tag_at, header_in, header_by, header_of, closed, read_body, decoded_by, decode_by, decode_of}
use Rattle.protocol.specs.Each.{Each}
use Rattle.protocol.specs.Fields.{unsigned, signed, one_of, text, value, rest, Field, one, counted, ended, Slot, bytes}
use Rattle.protocol.specs.Kinds.{Envelope, typed, untyped, bare, Kind, Mode, modes, IsIn, mode_of, kind_in}
use Rattle.protocol.specs.Reading.{Read, got, bad, and_then, read, read_each}
use Rattle.protocol.specs.Refusals.{mode_unknown, type_unknown, length_too_small, length_above_limit, bytes_left}
use Rattle.protocol.specs.WellFormed.{length_of, body_start}
use Rattle.protocol.proofs.Basics.{zero_one, left_holds, right_holds}
use Rattle.protocol.proofs.Framed.{Framing, Framed, framed_is, framed_ends}
use Rattle.protocol.proofs.Find.{every}
use Rattle.laws.specs.Faults.{LastField, FieldBefore, BodyFault, left, here, later, LengthFault, Unknown, HeaderFault, FrameEnds}
use Rattle.laws.specs.Statements.{Faulty, UnknownMode, BadHeader, FaultOf, Refusals, OneFault, the_decoder}
use Rattle.laws.proofs.Answered.{refused}
use Rattle.laws.proofs.Bodies.{sane_field, field_was}
use Rattle.laws.proofs.Complete.{length_back}
use Rattle.laws.proofs.Faults.{handed, field_fault}
use Rattle.laws.proofs.Headers.{tag_end, after_tag, header_is}
use Rattle.laws.proofs.Numbers.{bytes_take}
use Rattle.laws.proofs.Refused.{body_refused}
use Rattle.laws.proofs.SaneKinds.{row_sane}
use Rattle.laws.proofs.Table.{mode_found, kind_found, smallest_is}

-- ---- bodies

module _ (rules : Rules) (f : List ℕ) (b : Bytes f) where
  BodyRefused : List Field → ℕ → ℕ → ℕ → Type 0
  BodyRefused xs p number place = (at : ℕ) × BodyFault rules xs (drop p f) number at × (place ≡ p + at)

  -- reading fields, and nothing after them
  abbrev to_end : {X : Type 0} → (xs : List Field) → (Each Slot xs → X) → ℕ → Read X
  to_end xs make p = and_then (read_each (read rules) xs f p) (λ v q. closed f q (make v))

  left_fault : {X : Type 0} (x : X) (p number place : ℕ) → p ≤ length f → (t : Bool) → ltb p (length f) ≡ t → cond t (bad bytes_left p) (got x p) ≡ bad number place → BodyRefused [] p number place
  unfolding BodyRefused
  left_fault x p number place l false t e = absurd (zero_one cc)
  left_fault x p number place l true t e =
      let en : bytes_left ≡ number = cc in
      let ep : p ≡ place = cc in
      let some : 1 ≤ length (drop p f) = simp length-drop (omega (arith, ltb-true p (length f) t)) in
      (0, rw (← en) (left some), omega arith)

  -- the rest of a frame was read to its end
  field_last : (x : Field) (p q : ℕ) (v : Slot x) → read rules x f p ≡ got v q → LastField x (drop q f)
  field_last (one (unsigned w)) p q v e = tt
  field_last (one (signed w)) p q v e = tt
  field_last (one (one_of bs)) p q v e = tt
  field_last (one text) p q v e = tt
  field_last (one value) p q v e = tt
  field_last (one rest) p q v e = let end : length f ≡ q = cc in rw (← end) (drop-length f)
  field_last (counted k i) p q v e = tt
  field_last (ended i) p q v e = tt

  -- the first field was read, so the fault is in those after it
  after_first : {X : Type 0} (x : Field) (xs : List Field) (make : Each Slot (x ∷ xs) → X) (v : Slot x) (r : Read (Each Slot xs)) → and_then (and_then {Y = Each Slot (x ∷ xs)} r (λ ss e. got (record { 0 = v; 1 = ss }) e)) (λ ss q. closed f q (make ss)) ≡ and_then r (λ ss q. closed f q (make (record { 0 = v; 1 = ss })))
  after_first x xs make v (got ss q) = refl
  after_first x xs make v (bad k y) = refl

  field_by : {X : Type 0} (x : Field) (xs : List Field) (make : Each Slot (x ∷ xs) → X) (p number place : ℕ) → T (sane_field x) → p ≤ length f → (r : Read (Slot x)) → read rules x f p ≡ r → ((q : ℕ) (v : Slot x) → q ≤ length f → to_end xs (λ ss. make (record { 0 = v; 1 = ss })) q ≡ bad number place → BodyRefused xs q number place) → and_then (and_then {Y = Each Slot (x ∷ xs)} r (λ v q. and_then (read_each (read rules) xs f q) (λ ss e. got (record { 0 = v; 1 = ss }) e))) (λ ss q. closed f q (make ss)) ≡ bad number place → BodyRefused (x ∷ xs) p number place
  unfolding BodyRefused
  field_by x xs make p number place t l (bad k y) r ih e =
      let h = field_fault rules f b x t p number place l (r ∙ handed e) in
      (h.0, here h.1, h.2)
  field_by x xs make p number place t l (got v q) r ih e =
      let w = field_was rules f b x t p q v l r in
      let h = ih q v w.within (sym (after_first x xs make v (read_each (read rules) xs f q)) ∙ e) in
      let n = length (bytes x w.content) in
      let before : FieldBefore rules x (drop p f) (drop q f) n = record { content = w.content; in_range = w.in_range; writable = w.writable; split = w.split; last = field_last x p q v r; place = refl } in
      (n + h.0, later before h.1, omega (arith, w.next, h.2))

  fields_fault : {X : Type 0} (xs : List Field) (make : Each Slot xs → X) (p number place : ℕ) → T (every sane_field xs) → p ≤ length f → to_end xs make p ≡ bad number place → BodyRefused xs p number place
  unfolding closed
  fields_fault [] make p number place t l e = left_fault (make tt) p number place l (ltb p (length f)) refl e
  fields_fault (x ∷ xs) make p number place t l e =
      field_by x xs make p number place (left_holds (sane_field x) (every sane_field xs) t) l (read rules x f p) refl (λ q v m r. fields_fault xs (λ ss. make (record { 0 = v; 1 = ss })) q number place (right_holds (sane_field x) (every sane_field xs) t) m r) e

-- ---- headers

-- a test that chose the second of two headers, since the first is no refusal
past : (a n : ℕ) {x : Header} {number place : ℕ} (t : Bool) → ltb a n ≡ t → cond t more x ≡ refuse number place → (n ≤ a) × (x ≡ refuse number place)
past a n true t e = absurd (zero_one cc)
past a n false t e = (ltb-false a n t, e)

-- a refused length
module _ (k : Kind) (p start : ℕ) (s : List ℕ) (number place : ℕ) where
  limit_fault : (n : ℕ) → signed_of 4 (number_at 4 s p) ≡ pos n → k.smallest ≤ n → (t : Bool) → ltb k.limit n ≡ t → cond t (refuse length_above_limit p) (cond (ltb (length s) (p + n)) more (framed k start (p + n))) ≡ refuse number place → LengthFault k p s number × (place ≡ p)
  limit_fault n w l true t e =
      let en : length_above_limit ≡ number = cc in
      let ep : p ≡ place = cc in
      (inr (sym en, (n, w, l, ltb-true _ _ t)), sym ep)
  limit_fault n w l false t e =
      let h = (past (length s) (p + n) (ltb (length s) (p + n)) refl e).1 in
      absurd (zero_one cc)

  small_fault : (n : ℕ) → signed_of 4 (number_at 4 s p) ≡ pos n → (t : Bool) → ltb n k.smallest ≡ t → cond t (refuse length_too_small p) (cond (ltb k.limit n) (refuse length_above_limit p) (cond (ltb (length s) (p + n)) more (framed k start (p + n)))) ≡ refuse number place → LengthFault k p s number × (place ≡ p)
  small_fault n w true t e =
      let en : length_too_small ≡ number = cc in
      let ep : p ≡ place = cc in
      (inl (sym en, inr (n, w, ltb-true _ _ t)), sym ep)
  small_fault n w false t e = limit_fault n w (ltb-false _ _ t) (ltb k.limit n) refl e

  length_fault : (z : ℤ) → signed_of 4 (number_at 4 s p) ≡ z → length_by k p start s z ≡ refuse number place → LengthFault k p s number × (place ≡ p)
  unfolding length_by
  length_fault (pos n) w e = small_fault n w (ltb n k.smallest) refl e
  length_fault (negsuc n) w e =
      let en : length_too_small ≡ number = cc in
      let ep : p ≡ place = cc in
      (inl (sym en, inl (n, w)), sym ep)

module _ (m : Mode) (known : IsIn m modes) (s : List ℕ) (number place : ℕ) where
  -- a tag that tells no kind is no kind's
  no_kind : (tag : ℕ) → kind_in m tag ≡ none → Unknown m.kinds tag
  no_kind tag h k i e =
      let f = (kind_found m known tag k).1 (i, e) in
      zero_one cc

  header_fault : (e : Envelope) (o : Option Kind) → kind_in m (tag_at e s) ≡ o → tag_end e ≤ length s → after_tag e o s ≡ refuse number place → HeaderFault e m.kinds s number place
  unfolding HeaderFault typed_by untyped_by bare_by
  header_fault typed none h l e =
      let en : type_unknown ≡ number = cc in
      let ep : 0 ≡ place = cc in
      inl (sym en, sym ep, l, no_kind _ h)
  header_fault typed (some k) h l e =
      let c = past (length s) 5 _ refl e in
      let f = length_fault k 1 5 s number place _ refl c.1 in
      inr (f.1, c.0, (k, (kind_found m known _ k).0 h, f.0))
  header_fault untyped none h l e =
      let en : type_unknown ≡ number = cc in
      let ep : 4 ≡ place = cc in
      inl (sym en, sym ep, l, no_kind _ h)
  header_fault untyped (some k) h l e =
      let f = length_fault k 0 8 s number place _ refl e in
      inr (f.1, l, (k, (kind_found m known _ k).0 h, f.0))
  header_fault bare none h l e =
      let en : type_unknown ≡ number = cc in
      let ep : 0 ≡ place = cc in
      (sym en, sym ep, l, no_kind _ h)
  header_fault bare (some k) h l e = absurd (zero_one cc)

module _ (rules : Rules) (s : List ℕ) (b : Bytes s) (number place : ℕ) where
  mode_fault : (o : Option Mode) → mode_of rules ≡ o → header_by o s ≡ refuse number place → FaultOf rules s number place
  unfolding header_by
  mode_fault none h e =
      let en : mode_unknown ≡ number = cc in
      let ep : 0 ≡ place = cc in
      let unknown : (m : Mode) → IsIn m modes → m.mode ≡ rules.mode → ⊥ = λ m i q. absent m ((mode_found rules m).1 (i, q)) in
      inl (sym en, sym ep, unknown)
    where
      absent : (m : Mode) → mode_of rules ≡ some m → ⊥
      absent m f = zero_one cc
  mode_fault (some m) h e =
      let f = (mode_found rules m).0 h in
      let c = past (length s) (tag_end m.envelope) _ refl (rw header_is at e) in
      inr (inl (record { mode = m; known = f.0; is = f.1; fault = header_fault m f.0 s number place m.envelope _ refl c.0 c.1 }))

  -- ---- frames that are there

  frame_ends : (e : Envelope) (m : Mode) → IsIn m modes → (k : Kind) (end : ℕ) → kind_in m (tag_at e s) ≡ some k → Framing e k s end → FrameEnds e m.kinds k s end
  frame_ends typed m i k end h f = ((kind_found m i _ k).0 h, (f.1.n, f.1.word, f.1.smallest, f.1.limit, f.1.ends))
  frame_ends untyped m i k end h f = ((kind_found m i _ k).0 h, (f.1.n, f.1.word, f.1.smallest, f.1.limit, f.1.ends))
  frame_ends bare m i k end h f = ((kind_found m i _ k).0 h, f.1)

  faulty : (k : Kind) (start end : ℕ) → Framed rules s k start end → read_body rules k k.message (take end s) start ≡ bad number place → Faulty rules s number place
  unfolding BodyRefused
  faulty k start end h e =
      let env = h.mode.envelope in
      let f = take end s in
      let ends = framed_ends rules s k start end h in
      let mode = (mode_found rules h.mode).0 h.known in
      let kind = (kind_found h.mode mode.0 (tag_at env s) k).0 h.tag in
      let sane = row_sane h.mode mode.0 k kind.0 in
      let long : length f ≡ end = length-take-le end s ends.1 in
      let t = fields_fault rules f (bytes_take end s b) k.body k.message (body_start env) number place sane.fields (omega (arith, ends.0)) (rw h.starts at e) in
      record { mode = h.mode; known = mode.0; is = mode.1; kind = k; end = end; ends = frame_ends env h.mode mode.0 k end h.tag h.framing; whole = ends.1; at = t.0; fault = t.1; placed = t.2 }

  body_by : (k : Kind) (start end : ℕ) → Framed rules s k start end → (x : Read Message) → read_body rules k k.message (take end s) start ≡ x → decoded_by x end ≡ D.Refused number place → Faulty rules s number place
  unfolding decoded_by
  body_by k start end h (got m q) x e = absurd (zero_one cc)
  body_by k start end h (bad c y) x e =
      let en : c ≡ number = cc in
      let ep : y ≡ place = cc in
      faulty k start end h (x ∙ rw (en, ep) refl)

  header_by_lem : (h : Header) → header_of rules s ≡ h → decode_by rules s h ≡ D.Refused number place → FaultOf rules s number place
  unfolding decode_by header_of
  header_by_lem more h e = absurd (zero_one cc)
  header_by_lem (refuse c y) h e =
      let en : c ≡ number = cc in
      let ep : y ≡ place = cc in
      mode_fault (mode_of rules) refl (h ∙ rw (en, ep) refl)
  header_by_lem (framed k start end) h e = inr (inr (body_by k start end (framed_is rules s k start end h) (read_body rules k k.message (take end s) start) refl e))

-- ---- the other direction: where a fault stands, decoding refuses with its number at its place

length_refused : (k : Kind) (p start : ℕ) (s : List ℕ) (number : ℕ) → LengthFault k p s number → length_by k p start s (signed_of 4 (number_at 4 s p)) ≡ refuse number p
unfolding length_by
length_refused k p start s number (inl (e, inl h)) = rw (h.1, e) refl
length_refused k p start s number (inl (e, inr h)) = rw (h.1, lt-ltb _ _ h.2, e) refl
length_refused k p start s number (inr (e, h)) = rw (h.1, le-ltb _ _ h.2, lt-ltb _ _ h.3, e) refl

module _ (m : Mode) (known : IsIn m modes) (s : List ℕ) where
  -- a tag of no kind tells none
  tells_none : (tag : ℕ) → Unknown m.kinds tag → kind_in m tag ≡ none
  tells_none tag u = by (kind_in m tag) refl
    where
      by : (o : Option Kind) → kind_in m tag ≡ o → o ≡ none
      by none e = refl
      by (some k) e = let h = (kind_found m known tag k).0 e in absurd (u k h.0 h.1)

  header_refused : (e : Envelope) (number place : ℕ) → HeaderFault e m.kinds s number place → header_in e (kind_in m (tag_at e s)) s ≡ refuse number place
  unfolding HeaderFault typed_by untyped_by bare_by
  header_refused typed number place (inl h) = rw (header_is, le-ltb (length s) 1 h.2, tells_none _ h.3, h.0, h.1) refl
  header_refused typed number place (inr h) =
      let k = h.2.0 in
      let one : 1 ≤ length s = omega (arith, h.1) in
      rw (header_is, le-ltb (length s) 1 one, (kind_found m known _ k).1 h.2.1, le-ltb (length s) 5 h.1, length_refused k 1 5 s number h.2.2, h.0) refl
  header_refused untyped number place (inl h) = rw (header_is, le-ltb (length s) 8 h.2, tells_none _ h.3, h.0, h.1) refl
  header_refused untyped number place (inr h) =
      let k = h.2.0 in
      rw (header_is, le-ltb (length s) 8 h.1, (kind_found m known _ k).1 h.2.1, length_refused k 0 8 s number h.2.2, h.0) refl
  header_refused bare number place h = rw (header_is, le-ltb (length s) 1 h.2, tells_none _ h.3, h.0, h.1) refl

  -- a frame that is there
  header_framed : (e : Envelope) → m.envelope ≡ e → (k : Kind) (end : ℕ) → FrameEnds e m.kinds k s end → end ≤ length s → header_in e (kind_in m (tag_at e s)) s ≡ framed k (body_start e) end
  unfolding typed_by untyped_by bare_by
  header_framed typed q k end (t, (n, word, small, most, ends)) l =
      let least : k.smallest ≡ length_of typed _ = rw q at (smallest_is m known k t.0) in
      let five : 5 ≤ length s = omega (arith, least) in
      let one : 1 ≤ length s = omega arith in
      rw (header_is, le-ltb (length s) 1 one, (kind_found m known _ k).1 t, le-ltb (length s) 5 five, word, length_back k 1 5 n s small most (omega arith), ends) refl
  header_framed untyped q k end (t, (n, word, small, most, ends)) l =
      let least : k.smallest ≡ length_of untyped _ = rw q at (smallest_is m known k t.0) in
      let eight : 8 ≤ length s = omega (arith, least) in
      rw (header_is, le-ltb (length s) 8 eight, (kind_found m known _ k).1 t, word, length_back k 0 8 n s small most (omega arith), ends) refl
  header_framed bare q k end (t, ends) l = rw (header_is, le-ltb (length s) 1 (omega (arith, ends)), (kind_found m known _ k).1 t, ends) refl

module _ (rules : Rules) (s : List ℕ) (number place : ℕ) where
  no_mode : UnknownMode rules number place → header_of rules s ≡ refuse number place
  unfolding header_of header_by
  no_mode (en, ep, u) = by (mode_of rules) refl
    where
      by : (o : Option Mode) → mode_of rules ≡ o → header_by o s ≡ refuse number place
      by none e = rw (en, ep) refl
      by (some m) e = let f = (mode_found rules m).0 e in absurd (u m f.0 f.1)

  bad_header : BadHeader rules s number place → header_of rules s ≡ refuse number place
  unfolding header_of header_by
  bad_header h = rw ((mode_found rules h.mode).1 (h.known, h.is)) (header_refused h.mode h.known s h.mode.envelope number place h.fault)

  is_kind_lem : (e : Envelope) (kinds : List Kind) (k : Kind) (end : ℕ) → FrameEnds e kinds k s end → IsIn k kinds
  is_kind_lem typed kinds k end h = h.0.0
  is_kind_lem untyped kinds k end h = h.0.0
  is_kind_lem bare kinds k end h = h.0.0

  bad_body : Faulty rules s number place → decode_of rules s ≡ D.Refused number place
  unfolding decode_of header_of header_by decode_by decoded_by
  bad_body h =
      let e = h.mode.envelope in
      let k = h.kind in
      let f = take h.end s in
      let header : header_of rules s ≡ framed k (body_start e) h.end = rw ((mode_found rules h.mode).1 (h.known, h.is)) (header_framed h.mode h.known s e refl k h.end h.ends h.whole) in
      let was = framed_is rules s k (body_start e) h.end header in
      let start : body_start e ≤ length f = rw (length-take-le h.end s h.whole) (omega (arith, was.starts, (framed_ends rules s k (body_start e) h.end was).0)) in
      let sane = row_sane h.mode h.known k (is_kind_lem e h.mode.kinds k h.end h.ends) in
      let r = body_refused f rules k.body k.message sane.fields (body_start e) number h.at _ start refl h.fault in
      rw (header, r, h.placed) refl

  fault_refused : FaultOf rules s number place → decode_of rules s ≡ D.Refused number place
  unfolding decode_of decode_by
  fault_refused (inl h) = rw (no_mode h) refl
  fault_refused (inr (inl h)) = rw (bad_header h) refl
  fault_refused (inr (inr h)) = bad_body h

pub refusals : Refusals the_decoder
unfolding decode_of of_decoded
refusals rules s number place b = (λ e. header_by_lem rules s b number place (header_of rules s) refl (refused e), λ h. ap of_decoded (fault_refused rules s number place h))

-- a buffer has one fault at most: each is the decoder's one refusal
pub one_fault : OneFault
one_fault rules s number place number' place' h i =
    let d = fault_refused rules s number place h in
    let e = fault_refused rules s number' place' i in
    (cc, cc)
