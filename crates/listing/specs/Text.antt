-- Text as bytes: a number's decimal digits, and that a text is written.
use Rattle.std.specs.Prelude.{ℕ, zero, suc, ◌+◌, ◌/◌, ◌%◌, cond, List, [], ◌∷◌, ltb, length}
use Rattle.writers.specs.Writing as Pen

-- n's decimal digits before `later`: each turn takes the last digit off, and after the turns one is left
unfoldable pub digits_onto : ℕ → ℕ → List ℕ → List ℕ
digits_onto zero n later = (48 + n) ∷ later
digits_onto (suc turns) n later = cond (ltb n 10) ((48 + n) ∷ later) (digits_onto turns (n / 10) ((48 + n % 10) ∷ later))

-- a number of 64 bits has at most 20 digits
unfoldable pub decimal : ℕ → List ℕ
decimal n = digits_onto 19 n []

-- out is d with xs stored from p on, and next is the place after them
abbrev pub Wrote : List ℕ → ℕ → List ℕ → List ℕ → ℕ → Type 0
Wrote d p xs out next = Pen.Wrote d p xs (length xs) out next
