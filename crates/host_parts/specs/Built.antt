-- A row that is built, at the boundary: two numbers in the place of a record, and a refusal's number in the place of an answer.
use Rattle.std.specs.Prelude.{ℕ, zero, suc, List, [], ◌∷◌, ◌≡◌, get_or}
use Rattle.protocol.specs.Encoded as N
use Rattle.protocol.specs.Encoded.{Encoded}
use Rattle.protocol.specs.Answers.{Answer, success, refusal}
use Rattle.row_builder.specs.Building.{left_by}
use Rattle.row_builder.specs.Built as B
use Rattle.row_builder.specs.Built.{Built}
use Rattle.row_builder.specs.declared.Row.{Row}

-- the row that two numbers are: its columns, its size
abbrev pub row_at : List ℕ → Row
row_at xs = record { columns = get_or xs 0 0; size = get_or xs 1 0 }

-- the refusal's number, and 0 for success. The refusal's place is left out: it is always 0
abbrev pub number_of : Built → ℕ
number_of (B.Is row) = 0
number_of (B.Refused number place) = number

abbrev pub refusal_of : Encoded → ℕ
refusal_of (N.Done n) = 0
refusal_of (N.Refused number place) = number

-- how a host reads that number
unfoldable pub of_number : ℕ → Answer (Unit {0})
of_number zero = success tt 0
of_number (suc n) = refusal (suc n) 0

-- the new row's numbers; a refusal keeps the old ones
abbrev pub row_numbers : Built → List ℕ → List ℕ
row_numbers (B.Is row) xs = row.columns ∷ row.size ∷ []
row_numbers (B.Refused number place) xs = xs

-- what is promised of the answer, of the two numbers and of the room, before and after
pub record Renews (built : Built) (p : ℕ) (xs row₀ room₀ : List ℕ) (r : ℕ) (row₁ room₁ : List ℕ) : Type 0 where
  pub answer : r ≡ number_of built
  pub row : row₁ ≡ row_numbers built row₀
  pub room : room₁ ≡ left_by built p xs room₀
