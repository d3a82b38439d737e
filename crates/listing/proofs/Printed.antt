-- The lines, one after the other, are the listing: what `fill` leaves is always the rest of it, and after as many lines as it has nothing is left.
use Prim.Native.Nat.{ℕ, zero, suc, ◌+◌, ◌-◌, ◌≤◌, ◌<◌}
use mathlib.Core.List.{List, ◌++◌, append_assoc, append-nil}
use mathlib.Core.Path.{◌≡◌, refl, ap, sym, ◌∙◌}
use native.Mathlib.Nat.{zero-add}
use native.Mathlib.Omega.{arith}
use lib.ListN.{length, drop, length-drop}
use Rattle.protocol.specs.declared.Message.{Message}
use Rattle.protocol.specs.declared.Rules.{Rules}
use Rattle.protocol.specs.Rules.{rules_of}
use Rattle.protocol.specs.Stream.{Step, frame, stop, Stream, step_at, stream_by, stream_from}
use Rattle.listing.specs.declared.Left.TheVariants as L
use Rattle.listing.specs.declared.Left.{Left}
use Rattle.listing.specs.Opening as O
use Rattle.listing.specs.Opening.{Opening}
use Rattle.listing.specs.Listing.{opening_of, stream_text, text_from, listing_of, left_text, Lines, step_line, line_from, line_of, lines_of}
use Rattle.listing.proofs.Filling.{before}
use Rattle.listing.proofs.Steps.{step_over, frame_size}

-- ---- more turns than are needed change nothing

by_step : (p : ℕ) (x : Step) (f g : ℕ → Stream) → ((m : Message) (n : ℕ) → x ≡ frame m n → f (p + n) ≡ g (p + n)) → stream_by p x f ≡ stream_by p x g
by_step p (stop e) f g h = refl
by_step p (frame m n) f g h = ap (λ (t : Stream). stream_by p (frame m n) (λ _. t)) (h m n refl)

module _ (rules : Rules) (s : List ℕ) where
  same_turns : (t u p : ℕ) → length s ≤ p + t → length s ≤ p + u → stream_from rules t s p ≡ stream_from rules u s p
  unfolding stream_from
  same_turns zero zero p h k = refl
  same_turns zero (suc u) p h k = rw (← step_over rules s p (omega arith)) refl
  same_turns (suc t) zero p h k = rw (← step_over rules s p (omega arith)) refl
  same_turns (suc t) (suc u) p h k =
      by_step p (step_at rules s p) (stream_from rules t s) (stream_from rules u s)
      (λ m n e. let z = frame_size rules s p e in same_turns t u (p + n) (omega (arith, z.0)) (omega (arith, z.0)))

-- ---- one line

module _ (input : List ℕ) (mode : ℕ) (known : opening_of input ≡ O.Mode mode) where
  abbrev rules : Rules
  rules = rules_of mode

  abbrev s : List ℕ
  s = drop 1 input

  step_text : (t p : ℕ) (x : Step) → length s ≤ p + suc t → step_at rules s p ≡ x → stream_text (stream_by p x (stream_from rules t s)) ≡ (step_line p x).text ++ left_text input (step_line p x).left
  unfolding step_line
  step_text t p (stop e) h q = sym (append-nil _)
  step_text t p (frame m n) h q =
      let z = frame_size rules s p q in
      rw (append_assoc, known) (ap (λ (r : Stream). ◌++◌ {A = ℕ} (step_line p (frame m n)).text (stream_text r)) (same_turns rules s t (length s - (p + n)) (p + n) (omega (arith, z.0)) (omega arith)))

  turn_text : (t p : ℕ) → length s ≤ p + t → stream_text (stream_from rules t s p) ≡ (step_line p (step_at rules s p)).text ++ left_text input (step_line p (step_at rules s p)).left
  unfolding stream_from step_line
  turn_text zero p h = rw (← step_over rules s p (omega arith)) (sym (append-nil _))
  turn_text (suc t) p h = step_text t p (step_at rules s p) h refl

from_line : (input : List ℕ) (o : Opening) (p : ℕ) → opening_of input ≡ o → text_from o (drop 1 input) p ≡ (line_from o (drop 1 input) p).text ++ left_text input (line_from o (drop 1 input) p).left
unfolding line_from
from_line input (O.Mode mode) p e = turn_text input mode e (length (drop 1 input) - p) p (omega arith)
from_line input O.NoMode p e = sym (append-nil _)
from_line input O.Oversize p e = sym (append-nil _)

pub line_left : (input : List ℕ) (left : Left) → left_text input left ≡ (line_of input left).text ++ left_text input (line_of input left).left
unfolding line_of
line_left input L.All = refl
line_left input (L.From p) = from_line input (opening_of input) p refl
line_left input L.Nothing = refl

-- ---- lines

pub lines_left : (k : ℕ) (input : List ℕ) (left : Left) → left_text input left ≡ (lines_of k input left).text ++ left_text input (lines_of k input left).left
unfolding lines_of
lines_left zero input left = refl
lines_left (suc k) input left =
    let l = line_of input left in
    line_left input left ∙ ap (λ (t : List ℕ). l.text ++ t) (lines_left k input l.left) ∙ sym (append_assoc l.text _ _)

before_assoc : (l t u : Lines) → before l (before t u) ≡ before (before l t) u
before_assoc l t u = ap (λ (x : List ℕ). record { text = x; left = u.left }) (sym (append_assoc l.text t.text u.text))

-- page after page are as many lines in one
pub pages : (a b : ℕ) (input : List ℕ) (left : Left) → lines_of (a + b) input left ≡ before (lines_of a input left) (lines_of b input (lines_of a input left).left)
unfolding lines_of
pages zero b input left = rw zero-add refl
pages (suc a) b input left =
    let e : suc a + b ≡ suc (a + b) = omega arith in
    let l = line_of input left in
    rw e (ap (before l) (pages a b input l.left) ∙ before_assoc l (lines_of a input l.left) _)

nothing_stays : (k : ℕ) (input : List ℕ) → (lines_of k input L.Nothing).left ≡ L.Nothing
unfolding lines_of line_of
nothing_stays zero input = refl
nothing_stays (suc k) input = nothing_stays k input

-- each line takes a byte of the stream at least, and one more line is the end
module _ (input : List ℕ) where
  step_ends : (mode k p : ℕ) (x : Step) → step_at (rules_of mode) (drop 1 input) p ≡ x → length (drop 1 input) < p + suc k
      → ((q : ℕ) → q ≤ length (drop 1 input) → length (drop 1 input) < q + k → (lines_of k input (L.From q)).left ≡ L.Nothing)
      → (lines_of k input (step_line p x).left).left ≡ L.Nothing
  unfolding step_line
  step_ends mode k p (stop e) q h later = nothing_stays k input
  step_ends mode k p (frame m n) q h later =
      let z = frame_size (rules_of mode) (drop 1 input) p q in
      later (p + n) z.1 (omega (arith, z.0))

  line_ends : (o : Opening) (k p : ℕ) → length (drop 1 input) < p + suc k
      → ((q : ℕ) → q ≤ length (drop 1 input) → length (drop 1 input) < q + k → (lines_of k input (L.From q)).left ≡ L.Nothing)
      → (lines_of k input (line_from o (drop 1 input) p).left).left ≡ L.Nothing
  unfolding line_from
  line_ends (O.Mode mode) k p h later = step_ends mode k p (step_at (rules_of mode) (drop 1 input) p) refl h later
  line_ends O.NoMode k p h later = nothing_stays k input
  line_ends O.Oversize k p h later = nothing_stays k input

  ends_from : (k p : ℕ) → p ≤ length (drop 1 input) → length (drop 1 input) < p + k → (lines_of k input (L.From p)).left ≡ L.Nothing
  unfolding lines_of line_of
  ends_from zero p h l = absurd (omega arith)
  ends_from (suc k) p h l = line_ends (opening_of input) k p l (ends_from k)

  pub ends : (k : ℕ) → length input + 2 ≤ k → (lines_of k input L.All).left ≡ L.Nothing
  unfolding lines_of line_of
  ends zero h = absurd (omega arith)
  ends (suc k) h = ends_from k 0 (omega arith) (omega (arith, length-drop 1 input))

  -- two lines more than there are bytes are the whole listing
  pub printed : (k : ℕ) → length input + 2 ≤ k → (lines_of k input L.All).text ≡ listing_of input
  printed k h = sym (lines_left k input L.All ∙ rw (ends k h) (append-nil _))
