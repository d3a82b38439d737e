-- Laws for the points of a kind's decoder: what is left to read there is what there was at first. Each step of a decoder goes on by one of them.
use Prim.Native.Nat.{ℕ, ◌+◌, ◌≤◌}
use mathlib.Core.Bool.{Bool, true, false, cond}
use mathlib.Core.List.{List, [], ◌∷◌}
use Rattle.std.specs.Prelude.{Err}
use mathlib.Core.Path.{◌≡◌, refl, ap, ◌∙◌, sym, subst}
use native.Mathlib.Omega.{arith}
use borrow.Author.Tests.{ltb-false, le-ltb, eqb-true, eqb-false}
use lib.Dec.{ltb, eqb}
use lib.IntN.{ℤ, pos, negsuc}
use lib.ListN.{length, take}
use lib.Seq.{length-take-le}
use Rattle.protocol.specs.Decoded as D
use Rattle.protocol.specs.Decoded.{Decoded}
use Rattle.protocol.specs.declared.Message.{Message}
use Rattle.protocol.specs.declared.Rules.{Rules}
use Rattle.protocol.specs.declared.kinds.Line.{Line}
use Rattle.protocol.specs.Bytes.{number_at, signed_of, is_one_of}
use Rattle.protocol.specs.Decode.{more, refuse, framed, length_by, typed_by, untyped_by, bare_by, header_in, closed, body_of, decoded_by, decode_by, decode_as}
use Rattle.protocol.specs.Each.{Each}
use Rattle.protocol.specs.Fields.{Field, Slot}
use Rattle.protocol.specs.Kinds.{Envelope, typed, untyped, bare, Kind}
use Rattle.protocol.specs.Lines.{line_of}
use Rattle.protocol.specs.Reading.{Read, got, bad, and_then, read, read_number}
use Rattle.protocol.proofs.Numbers.{whole}
use Rattle.protocol.specs.Refusals.{length_too_small, length_above_limit, not_allowed}
use Rattle.protocol.specs.WellFormed.{body_start}
use Rattle.protocol.proofs.OneByOne.{each_on, each_off}
use Rattle.envelope.specs.Steps.{end_of, end_in, Framed, unread, left_of, framed_by, decode_made}
use Rattle.protocol.specs.Told.{decoded}
use Rattle.protocol.specs.declared.refusal.Unread.TheVariants as U
use Rattle.protocol.specs.declared.refusal.Unread.{Unread}
use Rattle.envelope.specs.Header as H
use Rattle.envelope.specs.Header.{Header}

-- ---- one field after the other

-- at a point of a decoder: these fields of the frame f are left to read from p on, and what is made of them is the whole answer
pub record Left (rules : Rules) (f : List ℕ) (whole : Decoded) (xs : List Field) (make : Each Slot xs → Message) (p : ℕ) : Type 0 where
  pub is : left_of rules xs make f p ≡ whole

module _ {rules : Rules} {f : List ℕ} {whole : Decoded} {x : Field} {xs : List Field} {make : Each Slot (x ∷ xs) → Message} {p : ℕ} where
  -- the field was read: the others are left
  pub on : Left rules f whole (x ∷ xs) make p → {s : Slot x} {q : ℕ} → got s q ≡ read rules x f p → Left rules f whole xs (λ ss. make (record { 0 = s; 1 = ss })) q
  on left e = record { is = ap (λ (r : Read Message). decoded_by r (length f)) (each_on (read rules) x xs f p (λ slots q. closed f q (make slots)) e) ∙ left.is }

  -- the field is at fault
  pub off : Left rules f whole (x ∷ xs) make p → {number place : ℕ} → bad number place ≡ read rules x f p → D.Refused number place ≡ whole
  unfolding decoded_by
  off left e = ap (λ (r : Read Message). decoded_by r (length f)) (each_off (read rules) x xs f p (λ slots q. closed f q (make slots)) e) ∙ left.is

-- no field is left
pub done : {rules : Rules} {f : List ℕ} {whole r : Decoded} {make : Each Slot [] → Message} {p : ℕ} → Left rules f whole [] make p → r ≡ decoded_by (closed f p (make tt)) (length f) → r ≡ whole
done left e = e ∙ left.is

-- ---- one of some bytes

abbrev allowed : List ℕ → ℕ → Read ℕ → Read ℕ
allowed bs p r = and_then r (λ b q. cond (is_one_of b bs) (got b q) (bad not_allowed p))

module _ (bs : List ℕ) (p : ℕ) {r : Read ℕ} where
  pub one_got : {n q : ℕ} → got n q ≡ r → is_one_of n bs ≡ true → got n q ≡ allowed bs p r
  one_got e t = rw (← e, t) refl

  pub one_not : {n q : ℕ} → got n q ≡ r → is_one_of n bs ≡ false → bad not_allowed p ≡ allowed bs p r
  one_not e t = rw (← e, t) refl

  pub one_bad : {number place : ℕ} → bad number place ≡ r → bad number place ≡ allowed bs p r
  one_bad e = rw (← e) refl

-- ---- the envelope

-- the length word at p: its checks, and the body of a whole frame
module _ (rules : Rules) (k : Kind) (p start : ℕ) (s : List ℕ) where
  abbrev body : List ℕ → Decoded
  body f = left_of rules k.body k.message f start

  length_as : (z : ℤ) → framed_by (end_of (line_of k) p (length s) z) s body ≡ decode_by rules s (length_by k p start s z)
  unfolding end_of length_by decode_by
  length_as (negsuc n) = refl
  length_as (pos n) = by (ltb n k.smallest) (ltb k.limit n) (ltb (length s) (p + n)) refl
    where
      by : (small above short : Bool) → ltb (length s) (p + n) ≡ short
          → framed_by (cond small (H.Refused length_too_small p) (cond above (H.Refused length_above_limit p) (cond short H.NeedMore (H.Frame (p + n))))) s body
          ≡ decode_by rules s (cond small (refuse length_too_small p) (cond above (refuse length_above_limit p) (cond short more (framed k start (p + n)))))
      by true above short h = refl
      by false true short h = refl
      by false false true h = refl
      by false false false h = ap (decoded_by (body_of rules k (take (p + n) s) start)) (length-take-le (p + n) s (ltb-false _ _ h))

-- a kind's decoder is the one for its line, its body and its message
pub made_as : (rules : Rules) (e : Envelope) (k : Kind) (s : List ℕ) → decode_made rules e (line_of k) k.body k.message s ≡ decode_as rules e k s
unfolding end_in header_in typed_by untyped_by bare_by decode_by
made_as rules typed k s = by (eqb (length s) 0) (ltb (length s) 5) refl refl
  where
    by : (none short : Bool) → eqb (length s) 0 ≡ none → ltb (length s) 5 ≡ short
        → framed_by (cond short H.NeedMore (end_of (line_of k) 1 (length s) (signed_of 4 (number_at 4 s 1)))) s (λ f. left_of rules k.body k.message f 5)
        ≡ decode_by rules s (cond none more (cond short more (length_by k 1 5 s (signed_of 4 (number_at 4 s 1)))))
    by true true h g = refl
    by true false h g =
        let none : length s ≡ 0 = eqb-true _ _ h in
        let some : 5 ≤ length s = ltb-false _ _ g in
        absurd (omega arith)
    by false true h g = refl
    by false false h g = length_as rules k 1 5 s _
made_as rules untyped k s = by (ltb (length s) 8)
  where
    by : (short : Bool)
        → framed_by (cond short H.NeedMore (end_of (line_of k) 0 (length s) (signed_of 4 (number_at 4 s 0)))) s (λ f. left_of rules k.body k.message f 8)
        ≡ decode_by rules s (cond short more (length_by k 0 8 s (signed_of 4 (number_at 4 s 0))))
    by true = refl
    by false = length_as rules k 0 8 s _
made_as rules bare k s = by (eqb (length s) 0) refl
  where
    by : (none : Bool) → eqb (length s) 0 ≡ none
        → framed_by (cond none H.NeedMore (H.Frame 1)) s (λ f. left_of rules k.body k.message f 1) ≡ decode_by rules s (cond none more (framed k 1 1))
    by true h = refl
    by false h =
        let some : length s ≡ 0 → ⊥ = eqb-false _ _ h in
        ap (decoded_by (body_of rules k (take 1 s) 1)) (length-take-le 1 s (omega arith))

-- ---- what the code knows behind the envelope

module _ (rules : Rules) (e : Envelope) (l : Line) (xs : List Field) (make : Each Slot xs → Message) (s : List ℕ) where
  -- a whole frame: its body is left
  pub begin_made : {f : List ℕ} → Framed (end_in e l s) s f → Left rules f (decode_made rules e l xs make s) xs make (body_start e)
  begin_made {f} is-frame = record { is = rw (is-frame.header, ← is-frame.bytes) refl }

  -- none
  pub none_made : (u : Unread) → unread u ≡ end_in e l s → decoded (Err u) ≡ decode_made rules e l xs make s
  none_made U.NeedMore is = rw (← is) refl
  none_made (U.Refused r) is = rw (← is) refl

module _ (rules : Rules) (e : Envelope) (k : Kind) (s : List ℕ) where
  pub begin : {f : List ℕ} → Framed (end_in e (line_of k) s) s f → Left rules f (decode_as rules e k s) k.body k.message (body_start e)
  begin is-frame = record { is = (begin_made rules e (line_of k) k.body k.message s is-frame).is ∙ made_as rules e k s }

  pub none : (u : Unread) → unread u ≡ end_in e (line_of k) s → decoded (Err u) ≡ decode_as rules e k s
  none u is = none_made rules e (line_of k) k.body k.message s u is ∙ made_as rules e k s

-- the length word was read, where it stands: its checks are left
module _ (l : Line) (s : List ℕ) (n q : ℕ) where
  pub typed_end : got n q ≡ read_number 4 s 1 → end_of l 1 (length s) (signed_of 4 n) ≡ end_in typed l s
  unfolding end_in
  typed_end e =
      let w = whole 4 s 1 n q (sym e) in
      let room : 5 ≤ length s = omega (arith, w.fits, w.next) in
      rw (le-ltb (length s) 5 room, w.is) refl

  pub untyped_end : 8 ≤ length s → got n q ≡ read_number 4 s 0 → end_of l 0 (length s) (signed_of 4 n) ≡ end_in untyped l s
  unfolding end_in
  untyped_end room e = let w = whole 4 s 0 n q (sym e) in rw (le-ltb (length s) 8 room, w.is) refl

-- a whole frame ends within the buffer
abbrev Within : ℕ → Header → Type 0
Within n (H.Frame end) = end ≤ n
Within n H.NeedMore = Unit {0}
Within n (H.Refused number place) = Unit {0}

within_end : (l : Line) (p : ℕ) (s : List ℕ) (z : ℤ) → Within (length s) (end_of l p (length s) z)
unfolding end_of
within_end l p s (negsuc n) = tt
within_end l p s (pos n) = by (ltb n l.2) (ltb l.3 n) (ltb (length s) (p + n)) refl
  where
    by : (small above short : Bool) → ltb (length s) (p + n) ≡ short → Within (length s) (cond small (H.Refused length_too_small p) (cond above (H.Refused length_above_limit p) (cond short H.NeedMore (H.Frame (p + n)))))
    by true above short h = tt
    by false true short h = tt
    by false false true h = tt
    by false false false h = ltb-false _ _ h

either : (t : Bool) (n : ℕ) (h : Header) → Within n h → Within n (cond t H.NeedMore h)
either true n h w = tt
either false n h w = w

within : (e : Envelope) (l : Line) (s : List ℕ) → Within (length s) (end_in e l s)
unfolding end_in
within typed l s = either (ltb (length s) 5) (length s) _ (within_end l 1 s _)
within untyped l s = either (ltb (length s) 8) (length s) _ (within_end l 0 s _)
within bare l s = by (eqb (length s) 0) refl
  where
    by : (none : Bool) → eqb (length s) 0 ≡ none → Within (length s) (cond none H.NeedMore (H.Frame 1))
    by true h = tt
    by false h = let some : length s ≡ 0 → ⊥ = eqb-false _ _ h in omega arith

-- so the part of the buffer up to there is the frame
module _ (e : Envelope) (l : Line) (s : List ℕ) {end : ℕ} (is : H.Frame end ≡ end_in e l s) where
  pub ends : end ≡ length (take end s)
  ends =
      let w : Within (length s) (H.Frame end) = subst (Within (length s)) (sym is) (within e l s) in
      sym (length-take-le end s w)

  pub frames : Framed (end_in e l s) s (take end s)
  frames = record { header = sym is ∙ ap H.Frame ends; bytes = ap (λ (n : ℕ). take n s) ends }
