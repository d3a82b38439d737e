-- Which lists have a second form (docs/FORMAT.md 8): Bind's list 1 and DataRow's list 0, and no other.
use Rattle.std.specs.Prelude.{ℕ, List, ◌++◌, ◌⊎◌, ◌↔◌, ◌≡◌, take}
use Rattle.protocol.specs.declared.Rules.{Rules}
use Rattle.protocol.specs.Elements.{value_or}
use Rattle.protocol.specs.Kinds.{Kind, Mode, modes, IsIn, bind, data_row}
use Rattle.protocol.specs.WellFormed.{Contents, WellFormed, frame}
use Rattle.laws.specs.ElementStatements.{HasValues}
use Rattle.laws.specs.Statements.{ElementCall}

abbrev pub HasSecondForm : Kind → ℕ → Type 0
HasSecondForm k l = ((k ≡ bind) × (l ≡ 1)) ⊎ ((k ≡ data_row) × (l ≡ 0))

-- These are the lists of values; and of every frame that is accepted the second form hands back the empty start of the stand-in where kind and
-- list are others.
pub record SecondForm (call : ElementCall) : Type 0 where
  pub lists : (m : Mode) → IsIn m modes → (k : Kind) → IsIn k m.kinds → (l : ℕ) → HasValues k l ↔ HasSecondForm k l
  pub others :
      (rules : Rules) (m : Mode) (k : Kind) (c : Contents k) (t stand : List ℕ) (l n : ℕ) → WellFormed rules m k c → (HasSecondForm k l → ⊥)
      → value_or (frame m.envelope k c ++ t) stand (call rules (frame m.envelope k c ++ t) l n) ≡ take 0 stand
