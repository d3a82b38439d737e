-- From a verdict and what was written to an encoder's promise, for any mode, kind and content.
use Prim.Native.Nat.{ℕ, ◌+◌, ◌-◌, ◌≤◌, ◌<◌, min}
use mathlib.Core.Bool.{Bool, true, false, cond, ◌&&◌}
use mathlib.Core.List.{List, ◌++◌}
use mathlib.Core.Option.{Option, some, none}
use mathlib.Core.Path.{◌≡◌, refl, ap, ◌∙◌, sym}
use native.Mathlib.Omega.{arith}
use borrow.Author.Tests.{ltb-true, ltb-false, lt-ltb, le-ltb}
use lib.Dec.{leb, ltb}
use lib.ListN.{length, drop, length-append}
use Rattle.protocol.specs.Encoded as N
use Rattle.protocol.specs.Encoded.{Encoded}
use Rattle.protocol.specs.Bytes.{be}
use Rattle.protocol.specs.Encode.{encoded_by, written_by, Encodes}
use Rattle.protocol.specs.Kinds.{Envelope, typed, untyped, bare, Kind, Mode, large_frame}
use Rattle.protocol.specs.Refusals.{length_above_limit, output_too_short, not_representable}
use Rattle.protocol.specs.Rules.{rules_of}
use Rattle.protocol.specs.WellFormed.{Contents, body_bytes, length_of, header, body_start, frame, all_able}
use Rattle.protocol.proofs.Basics.{refused_done, first_chosen, second_chosen, length-header}
use Rattle.writers.specs.Writing.{write, Wrote, Put, WroteFrame, largest, verdict_of}
use Rattle.writers.proofs.Laws.{◌then◌, front}
use Rattle.writers.proofs.Puts.{Fits, same_size, headed, ◌and◌}

-- ---- lengths

-- the bytes that the length does not count
abbrev pub uncounted : Envelope → ℕ
uncounted typed = 1
uncounted untyped = 0
uncounted bare = 0

start_of : (e : Envelope) (n : ℕ) → body_start e + n ≡ length_of e n + uncounted e
start_of typed n = omega arith
start_of untyped n = omega arith
start_of bare n = omega arith

pub length-frame : (e : Envelope) (k : Kind) (c : Contents k) → length (frame e k c) ≡ length_of e (length (body_bytes k c)) + uncounted e
unfolding frame
length-frame e k c =
    let n = length (body_bytes k c) in
    omega (arith, length-append (header e k.tag n) (body_bytes k c), length-header e k.tag n, start_of e n)

-- ---- the frame, as it was written

only : {A : Type 0} {x y : A} → some x ≡ some y → x ≡ y
only e = cc

-- the head, for a frame of n bytes, and then the body
pub framed : {d mid left : List ℕ} {e : Envelope} {n at next size : ℕ} (k : Kind) (c : Contents k)
    → Wrote d 0 (header e k.tag (n - body_start e)) (body_start e) mid at → Wrote mid at (body_bytes k c) size left next → n ≡ body_start e + size
    → WroteFrame e k (some c) d left
unfolding frame
framed {d} {mid} {left} {e} {n} k c h b is-n =
    let f : length (body_bytes k c) ≡ n - body_start e = omega (arith, b.size, is-n) in
    let w : left ≡ write d 0 (frame e k c) = rw f (h then b).bytes in
    record { bytes = λ x is. w ∙ ap (λ (y : Contents k). write d 0 (frame e k y)) (only is) }

-- the head and then the body, by writers that look for their room
pub framed_put : {d mid left : List ℕ} {n at next size : ℕ} (k : Kind) (c : Contents k)
    → Put (leb 5 n && leb n large_frame) d 0 (header typed k.tag (n - 5)) 5 mid at → Fits mid at (body_bytes k c) size left next → n ≡ 5 + size
    → n ≤ length d → n ≤ large_frame → WroteFrame typed k (some c) d left
framed_put k c head body e room small =
    let h = headed head (omega arith) room small in
    framed k c h (body (omega (arith, h.place, same_size h))) e

-- the same without a type byte: the length and the code are the head
pub framed_untyped : {d mid mid' left : List ℕ} {n at at' next size : ℕ} (k : Kind) (c : Contents k)
    → Put true d 0 (be 4 n) 4 mid at → Put true mid at (be 4 k.tag) 4 mid' at' → Fits mid' at' (body_bytes k c) size left next → n ≡ 8 + size
    → n ≤ length d → WroteFrame untyped k (some c) d left
unfolding header
framed_untyped {n = n} k c word code body e room =
    let h = (word.fits refl and code.fits refl) (omega arith) in
    let f : 8 + (n - 8) ≡ n = omega arith in
    framed k c (rw f h) (body (omega (arith, h.place, same_size h))) e

-- in any envelope, head and body at once
pub framed_whole : {d left : List ℕ} {e : Envelope} {n next : ℕ} (k : Kind) (c : Contents k) → Wrote d 0 (frame e k c) n left next → WroteFrame e k (some c) d left
framed_whole {d} {left} {e} k c w = record { bytes = λ x is. w.bytes ∙ ap (λ (y : Contents k). write d 0 (frame e k y)) (only is) }

-- ---- the verdict

-- a size that stopped at the largest number gets the answer of the size itself
cut : (able : Bool) (limit size more room : ℕ) → limit < largest
    → verdict_of able limit (min size largest) more room ≡ verdict_of able limit size more room
unfolding verdict_of
cut able limit size more room low = by (ltb limit size) refl
  where
    by : (t : Bool) → ltb limit size ≡ t → verdict_of able limit (min size largest) more room ≡ verdict_of able limit size more room
    by true e =
        let h : limit < size = ltb-true _ _ e in
        rw (e, lt-ltb limit (min size largest) (omega arith)) refl
    by false e =
        let h : size ≤ limit = ltb-false _ _ e in
        let k : min size largest ≡ size = omega arith in
        rw k refl

-- whether arguments can be written at all
unfoldable pub able_of : Mode → (k : Kind) → Option (Contents k) → Bool
able_of m k none = false
able_of m k (some c) = all_able (rules_of m.mode) k c

-- r is the answer
pub record Judged (m : Mode) (k : Kind) (given : Option (Contents k)) (room : ℕ) (r : Encoded) : Type 0 where
  pub answer : r ≡ encoded_by m k given room

module _ (m : Mode) (k : Kind) (low : k.limit < largest) where
  -- of a content: the measured size counts only where the content can be written
  judged_by : (c : Contents k) {size room : ℕ} {r : Encoded} (able : Bool)
      → all_able (rules_of m.mode) k c ≡ able → (able ≡ true → size ≡ min (length_of m.envelope (length (body_bytes k c))) largest)
      → r ≡ verdict_of able k.limit size (uncounted m.envelope) room → Judged m k (some c) room r
  unfolding encoded_by verdict_of
  judged_by c {size} {room} {r} false same sized v = record { answer = v ∙ rw same refl }
  judged_by c {size} {room} {r} true same sized v =
      let n = length_of m.envelope (length (body_bytes k c)) in
      let u = uncounted m.envelope in
      let e : verdict_of true k.limit size u room ≡ verdict_of true k.limit n u room = rw (sized refl) (cut true k.limit n u room low) in
      record { answer = v ∙ e ∙ rw (same, length-frame m.envelope k c) refl }

  judged_some : (c : Contents k) {able : Bool} {size room : ℕ} {r : Encoded}
      → able ≡ all_able (rules_of m.mode) k c
      → (able ≡ true → size ≡ min (length_of m.envelope (length (body_bytes k c))) largest)
      → r ≡ verdict_of able k.limit size (uncounted m.envelope) room → Judged m k (some c) room r
  judged_some c {able} same sized v = judged_by c able (sym same) sized v

  -- of arguments that may be no content
  pub judged_given : (given : Option (Contents k)) {able : Bool} {size room : ℕ} {r : Encoded}
      → able ≡ able_of m k given
      → ((c : Contents k) → given ≡ some c → able ≡ true → size ≡ min (length_of m.envelope (length (body_bytes k c))) largest)
      → r ≡ verdict_of able k.limit size (uncounted m.envelope) room → Judged m k given room r
  unfolding able_of encoded_by verdict_of
  judged_given none same sized v = record { answer = v ∙ rw same refl }
  judged_given (some c) same sized v = judged_some c same (sized c refl) v

-- ---- where the answer is a number of bytes

-- what is known of a frame of n bytes that is to be written
pub record Room (can : Bool) (limit size room n : ℕ) : Type 0 where
  pub able : can ≡ true
  pub whole : n ≡ size
  pub small : n ≤ limit
  pub fits : n ≤ room

pub room_by : (limit size whole room n : ℕ) (able : Bool)
    → cond able (cond (ltb limit size) (N.Refused length_above_limit 0) (cond (ltb room whole) (N.Refused output_too_short 0) (N.Done whole))) (N.Refused not_representable 0) ≡ N.Done n
    → (able ≡ true) × (n ≡ whole) × (size ≤ limit) × (whole ≤ room)
room_by limit size whole room n able e =
    let a = first_chosen able refused_done e in
    let b = second_chosen (ltb limit size) refused_done a.1 in
    let c = second_chosen (ltb room whole) refused_done b.1 in
    let q = c.1 in
    (a.0, cc, ltb-false _ _ b.0, ltb-false _ _ c.0)

-- what is written is a content
pub record Written (m : Mode) (k : Kind) (given : Option (Contents k)) (room n : ℕ) : Type 0 where
  pub it : Contents k
  pub is : given ≡ some it
  pub able : able_of m k given ≡ true
  pub whole : n ≡ length_of m.envelope (length (body_bytes k it)) + uncounted m.envelope
  pub small : length_of m.envelope (length (body_bytes k it)) ≤ k.limit
  pub fits : n ≤ room

pub written_of : (m : Mode) (k : Kind) (given : Option (Contents k)) {room n : ℕ} {r : Encoded} → Judged m k given room r → r ≡ N.Done n → Written m k given room n
unfolding encoded_by able_of
written_of m k none v is = absurd (refused_done (sym v.answer ∙ is))
written_of m k (some c) {room} {n} v is =
    let size = length_of m.envelope (length (body_bytes k c)) in
    let whole = length (frame m.envelope k c) in
    let able = all_able (rules_of m.mode) k c in
    let h = room_by k.limit size whole room n able (sym v.answer ∙ is) in
    record { it = c; is = refl; able = h.0; whole = h.1 ∙ length-frame m.envelope k c; small = h.2; fits = omega (arith, h.1, h.3) }

-- ---- the two returns of an encoder

pub refused : {m : Mode} {k : Kind} {given : Option (Contents k)} {out : List ℕ} {number place : ℕ} {r : Encoded}
    → Judged m k given (length out) r → r ≡ N.Refused number place → Encodes m k given out r out
unfolding written_by
refused {m} {k} {given} {out} {number} {place} {r} v is = record { answer = v.answer; output = rw is (by given) }
  where
    by : (g : Option (Contents k)) → out ≡ written_by m k g (N.Refused number place) out
    by none = refl
    by (some c) = refl

pub done : {m : Mode} {k : Kind} {given : Option (Contents k)} {out left : List ℕ} {n : ℕ} {r : Encoded}
    → Judged m k given (length out) r → r ≡ N.Done n → WroteFrame m.envelope k given out left → Encodes m k given out (N.Done n) left
unfolding written_by
done {m} {k} {given} {out} {left} {n} v is w =
    let h = written_of m k given v is in
    let f = frame m.envelope k h.it in
    let e : n ≡ length f = h.whole ∙ sym (length-frame m.envelope k h.it) in
    let l : left ≡ f ++ drop n out = w.bytes h.it h.is ∙ front out f (omega (arith, e, h.fits)) ∙ ap (λ (i : ℕ). f ++ drop i out) (sym e) in
    record { answer = sym is ∙ v.answer; output = rw h.is l }

-- ---- the two answers to a frame of a size that is known, with nothing but the room to ask for

module _ (m : Mode) (k : Kind) (c : Contents k) {n room : ℕ} (able : all_able (rules_of m.mode) k c ≡ true)
    (small : ltb k.limit (length_of m.envelope (length (body_bytes k c))) ≡ false) (size : length (frame m.envelope k c) ≡ n) where
  pub short : room < n → Judged m k (some c) room (N.Refused output_too_short 0)
  unfolding encoded_by
  short h = record { answer = rw (able, small, size, lt-ltb room n h) refl }

  pub enough : n ≤ room → Judged m k (some c) room (N.Done n)
  unfolding encoded_by
  enough h = record { answer = rw (able, small, size, le-ltb room n h) refl }

-- ---- the answer to a frame in an envelope, in plain numbers

-- what is to be known of a kind's arguments: their envelope, the kind's limit, whether they can be written, and how many bytes their body has
pub record MeasuredIn (e : Envelope) (m : Mode) (k : Kind) (given : Option (Contents k)) (most : ℕ) (can : Bool) (n : ℕ) : Type 0 where
  pub envelope : m.envelope ≡ e
  pub limit : k.limit ≡ most
  pub able : able_of m k given ≡ can
  pub size : (c : Contents k) → given ≡ some c → length (body_bytes k c) ≡ n

-- of a frame with a type byte
abbrev pub Measured : (m : Mode) (k : Kind) → Option (Contents k) → ℕ → Bool → ℕ → Type 0
Measured m k given most can n = MeasuredIn typed m k given most can n

pub measured : {e : Envelope} (m : Mode) (k : Kind) (c : Contents k) {limit : ℕ} {able : Bool} {size : ℕ}
    → m.envelope ≡ e → k.limit ≡ limit → all_able (rules_of m.mode) k c ≡ able → length (body_bytes k c) ≡ size
    → MeasuredIn e m k (some c) limit able size
unfolding able_of
measured m k c e l a s = record {
  envelope = e;
  limit = l;
  able = a;
  size = λ x is. ap (λ (y : Contents k). length (body_bytes k y)) (sym (only is)) ∙ s;
}

length_in : {e e' : Envelope} (n : ℕ) → e ≡ e' → length_of e n + uncounted e ≡ body_start e' + n
length_in {e' = e'} n is = rw is (sym (start_of e' n))

module _ {e : Envelope} {m : Mode} {k : Kind} {given : Option (Contents k)} {limit : ℕ} {able : Bool} {size : ℕ} (x : MeasuredIn e m k given limit able size) where
  pub judged : {able' : Bool} {size' room : ℕ} {r : Encoded} → limit < largest → able' ≡ able
      → (able ≡ true → size' ≡ min (length_of e size) largest) → r ≡ verdict_of able' limit size' (uncounted e) room → Judged m k given room r
  judged {able'} {size'} {room} {r} low same sized v =
      judged_given m k (omega (arith, low, x.limit)) given {size = size'} (same ∙ sym x.able)
      (λ c is t. rw (x.envelope, x.size c is) (sized (sym same ∙ t)))
      (rw (x.limit, x.envelope) v)

  pub room_of : {room n : ℕ} {r : Encoded} → Judged m k given room r → r ≡ N.Done n → Room able (limit + uncounted e) (body_start e + size) room n
  room_of {room} {n} v is =
      let h = written_of m k given v is in
      let s = length_in (length (body_bytes k h.it)) x.envelope in
      let u : uncounted m.envelope ≡ uncounted e = ap uncounted x.envelope in
      record { able = sym x.able ∙ h.able; whole = omega (arith, h.whole, s, x.size h.it h.is); small = omega (arith, h.whole, h.small, u, x.limit); fits = h.fits }

  pub finished : {out left : List ℕ} {n : ℕ} {r : Encoded}
      → Judged m k given (length out) r → r ≡ N.Done n → WroteFrame e k given out left → Encodes m k given out (N.Done n) left
  finished v is w = done v is (rw x.envelope w)
