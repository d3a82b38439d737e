-- What stands at a place of a stream.
use Prim.Native.Nat.{ℕ, ◌+◌, ◌-◌, ◌<◌, ◌≤◌}
use mathlib.Core.Bool.{Bool, true, false, cond}
use mathlib.Core.List.{List}
use mathlib.Core.Path.{◌≡◌, refl, ap, ◌∙◌}
use native.Mathlib.Omega.{arith}
use borrow.Author.Tests.{le-leb, lt-leb, leb-false}
use lib.Dec.{leb}
use lib.ListN.{length, take, drop, length-drop}
use lib.Seq.{take_all}
use Rattle.protocol.specs.Decoded as D
use Rattle.protocol.specs.Decoded.{Decoded}
use Rattle.protocol.specs.declared.Message.{Message}
use Rattle.protocol.specs.declared.Rules.{Rules}
use Rattle.protocol.specs.Decode.{decode_of}
use Rattle.protocol.specs.Stream.{frame, stop, whole, step_by, step_at}
use Rattle.protocol.proofs.Basics.{zero_one}
use Rattle.protocol.proofs.Framed.{record_size}
use Rattle.std.proofs.Common.{Err}
use Rattle.listing.specs.declared.End.TheVariants as E
use Rattle.listing.specs.declared.End.{End}
use Rattle.listing.specs.Listing.{end_told, step_of, step_told}

-- the end that the code answers
pub stopped : (e : End) → step_of (step_told (Err e)) ≡ stop (end_told e)
stopped E.Whole = refl
stopped E.NeedMore = refl
stopped (E.Refused r) = refl

module _ (rules : Rules) (s : List ℕ) (p : ℕ) where
  -- no byte is left there
  pub step_over : length s ≤ p → stop whole ≡ step_at rules s p
  unfolding step_at
  step_over h = rw (le-leb (length s) p h) refl

  -- what decoding answers of the bytes from there on
  pub step_within : (d : Decoded) → p < length s → d ≡ decode_of rules (take (length s - p) (drop p s)) → step_by d ≡ step_at rules s p
  unfolding step_at
  step_within d h e =
      rw (lt-leb (length s) p h) (ap step_by (e ∙ ap (decode_of rules) (take_all (length s - p) (drop p s) (simp length-drop (omega arith)))))

-- ---- a frame has a byte at least, and ends within the stream

decoded_is : (d : Decoded) {m : Message} {n : ℕ} → step_by d ≡ frame m n → d ≡ D.Record m n
unfolding step_by
decoded_is (D.Record x k) e = cc
decoded_is D.NeedMore e = absurd (zero_one cc)
decoded_is (D.Refused number place) e = absurd (zero_one cc)

chosen : (t : Bool) (d : Decoded) {m : Message} {n : ℕ} → cond t (stop whole) (step_by d) ≡ frame m n → (t ≡ false) × (d ≡ D.Record m n)
chosen true d e = absurd (zero_one cc)
chosen false d e = (refl, decoded_is d e)

pub frame_size : (rules : Rules) (s : List ℕ) (p : ℕ) {m : Message} {n : ℕ} → step_at rules s p ≡ frame m n → (1 ≤ n) × (p + n ≤ length s)
unfolding step_at
frame_size rules s p e =
    let c = chosen (leb (length s) p) (decode_of rules (drop p s)) e in
    let z = record_size rules (drop p s) c.1 in
    (z.0, omega (arith, leb-false (length s) p c.0, z.1, length-drop p s))
