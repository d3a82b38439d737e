-- What is known where a header names a whole frame.
use Prim.Native.Nat.{ℕ, ◌+◌, ◌≤◌}
use mathlib.Core.Bool.{Bool}
use mathlib.Core.List.{List}
use mathlib.Core.Option.{Option, some, none}
use mathlib.Core.Path.{◌≡◌, refl, ap, sym}
use native.Mathlib.Omega.{arith}
use borrow.Author.Tests.{ltb-false, eqb-false}
use lib.Dec.{T, leb, leb→le, ltb, eqb}
use lib.IntN.{ℤ, pos, negsuc}
use lib.ListN.{length, take}
use Rattle.protocol.specs.Decoded as D
use Rattle.protocol.specs.declared.Message.{Message}
use Rattle.protocol.specs.declared.Rules.{Rules}
use Rattle.protocol.specs.Bytes.{number_at, signed_of}
use Rattle.protocol.specs.Decode.{Header, more, refuse, framed, length_by, typed_by, untyped_by, bare_by, tag_at, header_in, header_by, header_of, body_of, decoded_by, decode_by, decode_of}
use Rattle.protocol.specs.Kinds.{Envelope, typed, untyped, bare, Kind, Mode, modes, mode_of, kind_in, the_table}
use Rattle.protocol.specs.Reading.{Read, got, bad}
use Rattle.protocol.specs.WellFormed.{body_start, length_of}
use Rattle.protocol.proofs.Basics.{more-framed, refuse-framed, waits_record, refused_record, second_chosen}
use Rattle.protocol.proofs.Find.{every, find-every, number_of, tag_of}

-- ---- the length word at p passed its checks, and the frame is there

pub record Sized (k : Kind) (p : ℕ) (s : List ℕ) (end : ℕ) : Type 0 where
  pub n : ℕ
  pub word : signed_of 4 (number_at 4 s p) ≡ pos n
  pub smallest : k.smallest ≤ n
  pub limit : n ≤ k.limit
  pub ends : end ≡ p + n
  pub whole : end ≤ length s

sized_by : (k : Kind) (p start : ℕ) (s : List ℕ) (z : ℤ) (h : Kind) (a b : ℕ) → signed_of 4 (number_at 4 s p) ≡ z → length_by k p start s z ≡ framed h a b → (k ≡ h) × (start ≡ a) × Sized k p s b
unfolding length_by
sized_by k p start s (negsuc n) h a b w e = absurd (refuse-framed e)
sized_by k p start s (pos n) h a b w e =
    let c1 = second_chosen (ltb n k.smallest) refuse-framed e in
    let c2 = second_chosen (ltb k.limit n) refuse-framed c1.1 in
    let c3 = second_chosen (ltb (length s) (p + n)) more-framed c2.1 in
    let f = c3.1 in
    let eb : p + n ≡ b = cc in
    let l : p + n ≤ length s = ltb-false _ _ c3.0 in
    (cc, cc, record { n = n; word = w; smallest = ltb-false _ _ c1.0; limit = ltb-false _ _ c2.0; ends = sym eb; whole = omega arith })

-- ---- by envelope

abbrev pub Framing : Envelope → Kind → List ℕ → ℕ → Type 0
Framing typed k s end = (5 ≤ length s) × Sized k 1 s end
Framing untyped k s end = (8 ≤ length s) × Sized k 0 s end
Framing bare k s end = (1 ≤ length s) × (end ≡ 1)

framing_by : (e : Envelope) (o : Option Kind) (s : List ℕ) (k : Kind) (a b : ℕ) → header_in e o s ≡ framed k a b → (o ≡ some k) × (a ≡ body_start e) × Framing e k s b
unfolding header_in typed_by untyped_by bare_by
framing_by typed none s k a b e = absurd (refuse-framed (second_chosen (eqb (length s) 0) more-framed e).1)
framing_by typed (some h) s k a b e =
    let c1 = second_chosen (eqb (length s) 0) more-framed e in
    let c2 = second_chosen (ltb (length s) 5) more-framed c1.1 in
    let r = sized_by h 1 5 s _ k a b refl c2.1 in
    let q = r.0 in
    (ap some q, sym r.1, (ltb-false _ _ c2.0, rw (← q) r.2))
framing_by untyped none s k a b e = absurd (refuse-framed (second_chosen (ltb (length s) 8) more-framed e).1)
framing_by untyped (some h) s k a b e =
    let c1 = second_chosen (ltb (length s) 8) more-framed e in
    let r = sized_by h 0 8 s _ k a b refl c1.1 in
    let q = r.0 in
    (ap some q, sym r.1, (ltb-false _ _ c1.0, rw (← q) r.2))
framing_by bare none s k a b e = absurd (refuse-framed (second_chosen (eqb (length s) 0) more-framed e).1)
framing_by bare (some h) s k a b e =
    let c1 = second_chosen (eqb (length s) 0) more-framed e in
    let f = c1.1 in
    let z : length s ≡ 0 → ⊥ = eqb-false _ _ c1.0 in
    let eb : 1 ≡ b = cc in
    (cc, cc, (omega arith, sym eb))

-- ---- a whole frame

pub record Framed (rules : Rules) (s : List ℕ) (k : Kind) (start end : ℕ) : Type 0 where
  pub mode : Mode
  pub known : mode_of rules ≡ some mode
  pub tag : kind_in mode (tag_at mode.envelope s) ≡ some k
  pub starts : start ≡ body_start mode.envelope
  pub framing : Framing mode.envelope k s end

framed_by_lem : (rules : Rules) (o : Option Mode) (s : List ℕ) (k : Kind) (a b : ℕ) → mode_of rules ≡ o → header_by o s ≡ framed k a b → Framed rules s k a b
unfolding header_by
framed_by_lem rules none s k a b m e = absurd (refuse-framed e)
framed_by_lem rules (some mode) s k a b m e =
    let r = framing_by mode.envelope _ s k a b e in
    record { mode = mode; known = m; tag = r.0; starts = r.1; framing = r.2 }

pub framed_is : (rules : Rules) (s : List ℕ) (k : Kind) (a b : ℕ) → header_of rules s ≡ framed k a b → Framed rules s k a b
unfolding header_of
framed_is rules s k a b e = framed_by_lem rules (mode_of rules) s k a b refl e

-- ---- a frame has at least its header: no kind's smallest length is smaller

abbrev roomy_kind : Envelope → Kind → Bool
roomy_kind e k = leb (length_of e 0) k.smallest

abbrev roomy_mode : Mode → Bool
roomy_mode m = every (roomy_kind m.envelope) m.kinds

all_roomy : T (every roomy_mode modes)
unfolding the_table
all_roomy = tt

ends_by : (e : Envelope) (k : Kind) (s : List ℕ) (end : ℕ) → T (roomy_kind e k) → Framing e k s end → (body_start e ≤ end) × (end ≤ length s)
ends_by typed k s end t f = let l = leb→le 4 k.smallest t in (omega arith, f.1.whole)
ends_by untyped k s end t f = let l = leb→le 8 k.smallest t in (omega arith, f.1.whole)
ends_by bare k s end t f = (omega arith, omega arith)

-- its body starts within it, and it ends within the buffer
pub framed_ends : (rules : Rules) (s : List ℕ) (k : Kind) (start end : ℕ) (f : Framed rules s k start end) → (body_start f.mode.envelope ≤ end) × (end ≤ length s)
unfolding mode_of kind_in
framed_ends rules s k start end f =
    let m = find-every number_of roomy_mode modes rules.mode f.mode all_roomy f.known in
    ends_by f.mode.envelope k s end (find-every tag_of (roomy_kind f.mode.envelope) f.mode.kinds _ k m f.tag) f.framing

-- ---- a frame that was decoded

starts_within : (e : Envelope) → 1 ≤ body_start e
starts_within typed = omega arith
starts_within untyped = omega arith
starts_within bare = omega arith

size_by : (rules : Rules) (s : List ℕ) (h : Header) {m : Message} {n : ℕ} → header_of rules s ≡ h → decode_by rules s h ≡ D.Record m n → (1 ≤ n) × (n ≤ length s)
unfolding decode_by decoded_by
size_by rules s more q e = absurd (waits_record e)
size_by rules s (refuse number place) q e = absurd (refused_record e)
size_by rules s (framed k start end) {m} {n} q e =
    let f = framed_is rules s k start end q in
    let b = framed_ends rules s k start end f in
    let x = consumed (body_of rules k (take end s) start) e in
    (omega (arith, b.0, starts_within f.mode.envelope), omega (arith, b.1))
  where
    consumed : (b : Read Message) → decoded_by b end ≡ D.Record m n → end ≡ n
    consumed (got x next) e = cc
    consumed (bad number place) e = absurd (refused_record e)

-- it has a byte at least, and all that is consumed is in the buffer
pub record_size : (rules : Rules) (s : List ℕ) {m : Message} {n : ℕ} → decode_of rules s ≡ D.Record m n → (1 ≤ n) × (n ≤ length s)
unfolding decode_of
record_size rules s e = size_by rules s (header_of rules s) refl e
