-- One thing for each sort of a list of sorts: an item is one for each of its atoms, a body one for each of its fields.
use Rattle.std.specs.Prelude.{ℕ, ◌+◌, Bool, true, ◌&&◌, List, [], ◌∷◌, ◌++◌, length}

abbrev pub Each : {X : Type 0} → (X → Type 0) → List X → Type 0
Each F [] = Unit {0}
Each F (x ∷ xs) = record { 0 : F x; 1 : Each F xs }

module _ {X : Type 0} {C : X → Type 0} where
  -- their bytes, one after the other
  unfoldable pub bytes_of_each : ((x : X) → C x → List ℕ) → (xs : List X) → Each C xs → List ℕ
  bytes_of_each bytes [] c = []
  bytes_of_each bytes (x ∷ xs) c = bytes x c.0 ++ bytes_of_each bytes xs c.1

  -- what a record holds of them where the first begins at p
  unfoldable pub slots_of_each : {S : X → Type 0} → ((x : X) → C x → List ℕ) → ((x : X) → ℕ → C x → S x) → (xs : List X) → ℕ → Each C xs → Each S xs
  slots_of_each bytes slot [] p c = tt
  slots_of_each bytes slot (x ∷ xs) p c = record { 0 = slot x p c.0; 1 = slots_of_each bytes slot xs (p + length (bytes x c.0)) c.1 }

  -- that a test passes of each
  unfoldable pub able_each : ((x : X) → C x → Bool) → (xs : List X) → Each C xs → Bool
  able_each able [] c = true
  able_each able (x ∷ xs) c = able x c.0 && able_each able xs c.1

  -- that a fact holds of each
  unfoldable pub HoldsEach : ((x : X) → C x → Type 0) → (xs : List X) → Each C xs → Type 0
  HoldsEach Holds [] c = Unit {0}
  HoldsEach Holds (x ∷ xs) c = Holds x c.0 × HoldsEach Holds xs c.1

-- what they need at least, in bytes
unfoldable pub least_of_each : {X : Type 0} → (X → ℕ) → List X → ℕ
least_of_each least [] = 0
least_of_each least (x ∷ xs) = least x + least_of_each least xs
