-- Small laws for the proofs of every crate: two constructors are never equal, what a test tells, the lengths of bytes, and a signed number that
-- is read back from its bits. Laws of tests with one side known (`and-true`, ..) and of true and false stand in mathlib.Core.Bool.
use Prim.Native.Nat.{ℕ, zero, suc, ◌+◌, ◌*◌, ◌/◌, ◌%◌, ◌<◌, ◌^◌}
use mathlib.Core.Bool.{Bool, true, false, cond, ◌&&◌, false≢true}
use mathlib.Core.List.{[], ◌∷◌}
use mathlib.Core.Option.{some, none}
use mathlib.Core.Path.{◌≡◌, refl}
use native.Mathlib.Omega.{arith}
use lib.Dec.{T}
use lib.IntN.{ℤ, pos, negsuc}
use lib.ListN.{length, length-append}
use lib.Signed.{mag}
use mir.Syntax.{Width}
use mir.Val.{hbits, to_z, of_z}
use mir.ValLaws.{to_z-of_z}
use Rattle.protocol.specs.Decoded as D
use Rattle.protocol.specs.Encoded as N
use Rattle.protocol.specs.declared.Message.{Message}
use Rattle.protocol.specs.Bytes.{be}
use Rattle.protocol.specs.Decode.{more, refuse, framed}
use Rattle.protocol.specs.Kinds.{Envelope, typed, untyped, bare, Kind}
use Rattle.protocol.specs.Reading.{got, bad}
use Rattle.protocol.specs.Stream.{End, frame, stop}
use Rattle.protocol.specs.WellFormed.{header, body_start}

-- ---- two constructors are never equal; the name has the left one first

-- `cc` knows it, and proves equations alone: it is asked for this one
pub zero_one : ◌≡◌ {A = ℕ} 0 1 → ⊥
zero_one e = omega arith

pub none-some : {A : Type 0} {x : A} → none ≡ some x → ⊥
none-some e = zero_one cc

pub some-none : {A : Type 0} {x : A} → some x ≡ none → ⊥
some-none e = zero_one cc

pub got-bad : {X : Type 0} {x : X} {next number place : ℕ} → got x next ≡ bad number place → ⊥
got-bad e = zero_one cc

pub bad-got : {X : Type 0} {x : X} {next number place : ℕ} → bad number place ≡ got x next → ⊥
bad-got e = zero_one cc

pub pos-negsuc : {n m : ℕ} → pos n ≡ negsuc m → ⊥
pos-negsuc e = zero_one cc

pub negsuc-pos : {n m : ℕ} → negsuc m ≡ pos n → ⊥
negsuc-pos e = zero_one cc

-- headers
pub more-refuse : {number place : ℕ} → more ≡ refuse number place → ⊥
more-refuse e = zero_one cc

pub more-framed : {k : Kind} {start end : ℕ} → more ≡ framed k start end → ⊥
more-framed e = zero_one cc

pub refuse-more : {number place : ℕ} → refuse number place ≡ more → ⊥
refuse-more e = zero_one cc

pub refuse-framed : {k : Kind} {number place start end : ℕ} → refuse number place ≡ framed k start end → ⊥
refuse-framed e = zero_one cc

pub framed-more : {k : Kind} {start end : ℕ} → framed k start end ≡ more → ⊥
framed-more e = zero_one cc

pub framed-refuse : {k : Kind} {number place start end : ℕ} → framed k start end ≡ refuse number place → ⊥
framed-refuse e = zero_one cc

-- what decoding answers, what stands at a place of a stream, and what encoding answers
pub waits_record : {m : Message} {n : ℕ} → D.NeedMore ≡ D.Record m n → ⊥
waits_record e = zero_one cc

pub waits_refused : {number place : ℕ} → D.NeedMore ≡ D.Refused number place → ⊥
waits_refused e = zero_one cc

pub refused_record : {m : Message} {n number place : ℕ} → D.Refused number place ≡ D.Record m n → ⊥
refused_record e = zero_one cc

pub record_refused : {m : Message} {n number place : ℕ} → D.Record m n ≡ D.Refused number place → ⊥
record_refused e = zero_one cc

pub stop-frame : {m : Message} {n : ℕ} {end : End} → stop end ≡ frame m n → ⊥
stop-frame e = zero_one cc

pub refused_done : {n number place : ℕ} → N.Refused number place ≡ N.Done n → ⊥
refused_done e = zero_one cc

pub done_refused : {n number place : ℕ} → N.Done n ≡ N.Refused number place → ⊥
done_refused e = zero_one cc

-- ---- tests

-- a test chose the first of two, since the second is not what there is; or the second, since the first is not
pub first_chosen : {A : Type 0} (t : Bool) {a b x : A} → (b ≡ x → ⊥) → cond t a b ≡ x → (t ≡ true) × (a ≡ x)
first_chosen true n e = (refl, e)
first_chosen false n e = absurd (n e)

pub second_chosen : {A : Type 0} (t : Bool) {a b x : A} → (a ≡ x → ⊥) → cond t a b ≡ x → (t ≡ false) × (b ≡ x)
second_chosen true n e = absurd (n e)
second_chosen false n e = (refl, e)

-- two tests that both pass

pub and_left : (a b : Bool) → a && b ≡ true → a ≡ true
and_left true b e = refl
and_left false b e = e

pub and_right : (a : Bool) {b : Bool} → a && b ≡ true → b ≡ true
and_right true e = e
and_right false e = absurd (false≢true e)

-- the same of a test that computes
pub left_holds : (a b : Bool) → T (a && b) → T a
left_holds true b t = tt
left_holds false b t = t

pub right_holds : (a b : Bool) → T (a && b) → T b
right_holds true b t = t
right_holds false b t = absurd t

-- ---- bytes

pub length-be : (w n : ℕ) → length (be w n) ≡ w
unfolding be
length-be zero n = refl
length-be (suc w) n = omega (arith, length-append (be w (n / 256)) (n % 256 ∷ []), length-be w (n / 256))

pub length-header : (e : Envelope) (tag n : ℕ) → length (header e tag n) ≡ body_start e
unfolding header be
length-header typed tag n = refl
length-header untyped tag n = refl
length-header bare tag n = refl

-- the lowest byte of a number that is put together from bytes
pub last_byte : (y b q : ℕ) → b < 256 → y ≡ b + 256 * q → y % 256 ≡ b
last_byte y b q h e = omega arith

-- a signed number that is passed on is read back from its bits
pub back : (w : Width) (z : ℤ) → mag z < 2 ^ hbits w → to_z w (of_z w z) ≡ z
back w z h = to_z-of_z w z (record { sfits = h })
