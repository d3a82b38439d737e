-- The plain scan for a zero byte, one byte after the other.
use Rattle.std.specs.Prelude.{ℕ, suc, ◌+◌, ◌≤◌, Bool, not, cond, List, [], ◌∷◌, ◌≡◌, eqb, length, drop}
use Rattle.std.specs.List.{list_all}

-- how many bytes stand before the first zero; where there is none, all
unfoldable pub before : List ℕ → ℕ
before [] = 0
before (b ∷ bs) = cond (eqb b 0) 0 (suc (before bs))

-- none is zero
abbrev pub is_clear : List ℕ → Bool
is_clear bs = list_all (λ b. not (eqb b 0)) bs

-- the place of the first zero at or after a place; where there is none, the end, or that place if it is past the end
unfoldable pub zero_from : List ℕ → ℕ → ℕ
zero_from s from = from + before (drop from s)

-- r is at or after i, and the scan from r finds what the scan from i finds
abbrev pub Passed : List ℕ → ℕ → ℕ → Type 0
Passed s i r = (i ≤ r) × ((r ≤ length s) × (zero_from s r ≡ zero_from s i))
