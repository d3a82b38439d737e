-- Arguments that may be no content: whether they are one, how long a value is, and which lengths are names and values.
use Rattle.std.specs.Prelude.{ℕ, Bool, true, false, not, ◌&&◌, List, [], ◌∷◌, eqb, ℤ, pos, negsuc}
use Rattle.std.proofs.Math.Option.{Option, some, none}

abbrev pub is_some : {A : Type 0} → Option A → Bool
is_some none = false
is_some (some x) = true

-- how many bytes a value of the length z has: none where it is NULL
abbrev pub size_of : ℤ → ℕ
size_of (pos n) = n
size_of (negsuc n) = 0

-- lengths that are a name's and a value's by turns: each name has a value, and none is empty
unfoldable pub named : List ℕ → Bool
named [] = true
named (n ∷ []) = false
named (n ∷ v ∷ ns) = not (eqb n 0) && named ns
