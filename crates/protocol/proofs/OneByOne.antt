-- What a step of reading leaves: one thing after the other, and a number that is read as a signed one.
use Prim.Native.Nat.{ℕ}
use mathlib.Core.List.{List, ◌∷◌}
use mathlib.Core.Path.{◌≡◌, refl, ◌∙◌}
use Rattle.protocol.specs.Bytes.{signed_of}
use Rattle.protocol.specs.Each.{Each}
use Rattle.protocol.specs.Reading.{Read, got, bad, and_then, read_each}

-- what was read of the first leaves the others, and a fault of the first is a fault of all
module _ {X Y : Type 0} {S : X → Type 0} (read : (x : X) → List ℕ → ℕ → Read (S x)) (x : X) (xs : List X) (f : List ℕ) (p : ℕ) (then : Each S (x ∷ xs) → ℕ → Read Y) where
  abbrev behind : S x → Each S xs → Each S (x ∷ xs)
  behind s ss = record { 0 = s; 1 = ss }

  on_by : (s : S x) (r : Read (Each S xs)) → and_then r (λ ss e. then (behind s ss) e) ≡ and_then (and_then r (λ ss e. got (behind s ss) e)) then
  on_by s (got ss e) = refl
  on_by s (bad number place) = refl

  pub each_on : {s : S x} {q : ℕ} → got s q ≡ read x f p → and_then (read_each read xs f q) (λ ss e. then (behind s ss) e) ≡ and_then (read_each read (x ∷ xs) f p) then
  each_on {s} {q} e = on_by s (read_each read xs f q) ∙ rw (← e) refl

  pub each_off : {number place : ℕ} → bad number place ≡ read x f p → bad number place ≡ and_then (read_each read (x ∷ xs) f p) then
  each_off e = rw (← e) refl

module _ (w : ℕ) {r : Read ℕ} where
  pub signed_got : {n q : ℕ} → got n q ≡ r → got (signed_of w n) q ≡ and_then r (λ n q. got (signed_of w n) q)
  signed_got e = rw (← e) refl

  pub signed_bad : {number place : ℕ} → bad number place ≡ r → bad number place ≡ and_then r (λ n q. got (signed_of w n) q)
  signed_bad e = rw (← e) refl
