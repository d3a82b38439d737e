-- From the verdict on a frame, on either way out, to what its encoder promises.
use Prim.Native.Nat.{ℕ, ◌+◌, ◌-◌, ◌≤◌, ◌<◌, min}
use mathlib.Core.Bool.{Bool, true, ◌&&◌}
use mathlib.Core.List.{List}
use mathlib.Core.Option.{Option, some, map}
use mathlib.Core.Path.{◌≡◌, refl}
use native.Mathlib.Omega.{arith}
use lib.Dec.{leb}
use lib.ListN.{length}
use Rattle.std.specs.Prelude.{Result, Err}
use Rattle.protocol.specs.declared.refusal.Refused.{Refused}
use Rattle.protocol.specs.Encoded as N
use Rattle.protocol.specs.Encode.{Encodes}
use Rattle.protocol.specs.Kinds.{Envelope, Kind, Mode, typed, large_frame}
use Rattle.protocol.specs.Told.{encoded}
use Rattle.protocol.specs.WellFormed.{Contents, body_bytes, length_of, header, body_start}
use Rattle.writers.specs.Writing.{Put, WroteFrame, largest, verdict_of}
use Rattle.writers.proofs.Encoding.{Measured, MeasuredIn, judged, room_of, refused, finished, framed_put, uncounted}
use Rattle.writers.proofs.GivenLaws.{framed_given}
use Rattle.writers.proofs.Puts.{Fits}

-- what is known where a frame of n bytes may be written, and what is promised once it is
pub record Granted (e : Envelope) (m : Mode) (k : Kind) (given : Option (Contents k)) (can : Bool) (limit size : ℕ) (out : List ℕ) (n : ℕ) : Type 0 where
  pub able : can ≡ true
  pub whole : n ≡ size
  pub small : n ≤ limit
  pub fits : n ≤ length out
  pub done : {left : List ℕ} → WroteFrame e k given out left → Encodes m k given out (N.Done n) left

-- the verdict, on a size that stops at the largest number, and only where the arguments can be written
module _ {e : Envelope} {m : Mode} {k : Kind} {given : Option (Contents k)} {limit : ℕ} {able : Bool} {size : ℕ} (x : MeasuredIn e m k given limit able size)
    {able' : Bool} {size' : ℕ} (low : limit < large_frame) (same : able' ≡ able) (sized : able ≡ true → size' ≡ min (length_of e size) largest) where
  pub denied : {out : List ℕ} {why : Refused} {r : Result ℕ Refused}
      → (err : Refused) × (r ≡ Err err) × (err ≡ why) → encoded (Err why) ≡ verdict_of able' limit size' (uncounted e) (length out)
      → Encodes m k given out (encoded r) out
  denied is v = rw (is.1, is.2) (refused (judged x (omega arith) same sized v) refl)

  pub granted : {out : List ℕ} {n : ℕ} → N.Done n ≡ verdict_of able' limit size' (uncounted e) (length out)
      → Granted e m k given able (limit + uncounted e) (body_start e + size) out n
  granted v =
      let j = judged x (omega arith) same sized v in
      let h = room_of x j refl in
      record { able = h.able; whole = h.whole; small = h.small; fits = h.fits; done = λ w. finished x j refl w }

-- a frame with a type byte: its head, and then its body's fields, of a content
pub wrote : {m : Mode} {k : Kind} {c : Contents k} {limit : ℕ} {able : Bool} {size : ℕ} (x : Measured m k (some c) limit able size)
    {able' : Bool} {size' : ℕ} (low : limit < large_frame) (same : able' ≡ able) (sized : able ≡ true → size' ≡ min (size + 4) largest)
    {out mid left : List ℕ} {n at next body : ℕ} → N.Done n ≡ verdict_of able' limit size' 1 (length out)
    → Put (leb 5 n && leb n large_frame) out 0 (header typed k.tag (n - 5)) 5 mid at
    → (able ≡ true → Fits mid at (body_bytes k c) body left next) → size ≡ body → Encodes m k (some c) out (N.Done n) left
wrote {k = k} {c = c} x low same sized v head fields many =
    let g = granted x low same (λ t. omega (arith, sized t)) v in
    g.done (framed_put k c head (fields g.able) (omega (arith, g.whole)) g.fits (omega (arith, g.small)))

-- the same of arguments that may be no content
pub wrote_given : {A : Type 0} {m : Mode} (k : Kind) (content : A → Contents k) {given : Option A} {limit : ℕ} {able : Bool} {size : ℕ}
    (x : Measured m k (map content given) limit able size)
    {able' : Bool} {size' : ℕ} (low : limit < large_frame) (same : able' ≡ able) (sized : able ≡ true → size' ≡ min (size + 4) largest)
    {out mid left : List ℕ} {n at next body : ℕ} → N.Done n ≡ verdict_of able' limit size' 1 (length out)
    → Put (leb 5 n && leb n large_frame) out 0 (header typed k.tag (n - 5)) 5 mid at
    → ((y : A) → given ≡ some y → able ≡ true → Fits mid at (body_bytes k (content y)) body left next) → size ≡ body
    → Encodes m k (map content given) out (N.Done n) left
wrote_given k content {given} x low same sized v head fields many =
    let g = granted x low same (λ t. omega (arith, sized t)) v in
    g.done
    (framed_given k content given
    (λ y is. framed_put k (content y) head (fields y is g.able) (omega (arith, g.whole)) g.fits (omega (arith, g.small))))
