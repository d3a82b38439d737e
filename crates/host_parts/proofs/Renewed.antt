-- What a call of a row that is built tells at the boundary, by what it answers.
use Prim.Native.Nat.{ℕ}
use mathlib.Core.List.{List}
use mathlib.Core.Path.{◌≡◌}
use Rattle.row_builder.specs.Building.{left_by}
use Rattle.row_builder.specs.Built.{Built}
use Rattle.host_parts.specs.Built.{Renews, number_of, row_numbers}

pub renews : {built definition : Built} {p r : ℕ} {xs row₀ row₁ room₀ room₁ : List ℕ} → (built ≡ definition) × (room₁ ≡ left_by built p xs room₀)
    → (r ≡ number_of built) × (row₁ ≡ row_numbers built row₀) → Renews definition p xs row₀ room₀ r row₁ room₁
renews called told = rw (← called.0) (record { answer = told.0; row = told.1; room = called.1 })
