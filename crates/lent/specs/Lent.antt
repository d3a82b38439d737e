-- Refused or told need-more, a call leaves what it was lent as it was: one statement for every public call that is lent something to write into.
-- docs/DECISIONS.md has the calls that it does not speak of, and why.
use Rattle.std.specs.Prelude.{ℕ, ◌<◌, List, ◌≡◌, ℤ, length, Result}
use Rattle.std.proofs.Math.Option.{Option}
use Rattle.protocol.specs.declared.List.{List as ListSlot}
use Rattle.protocol.specs.declared.refusal.Refused.{Refused}
use Rattle.protocol.specs.declared.refusal.Unread.{Unread}
use Rattle.protocol.specs.Answers.{Answer, Unsuccessful, of_encoded}
use Rattle.protocol.specs.Encode.{Encodes}
use Rattle.protocol.specs.Kinds.{Kind, Mode}
use Rattle.protocol.specs.Told.{encoded}
use Rattle.protocol.specs.WellFormed.{Contents}
use Rattle.host.specs.Asked.{Asked, Answers, answer_by}
use Rattle.host_layout.specs.LaidOut.{of_numbers}
use Rattle.host_parts.specs.Built.{Renews, of_number}
use Rattle.host_parts.specs.Reads.{LaysRow}
use Rattle.reader.specs.Row.{of_row, row_told, ReadsRow}
use Rattle.row_builder.specs.Building.{built, left_by, of_built}
use Rattle.row_builder.specs.Built.{Built}
use Rattle.row_builder.specs.declared.Row.{Row}

-- a call that is lent L: `Promise` is its contract, of what was lent before, the answer, and what was lent after; `says` sets its answer out
abbrev pub Leaves : {L R X : Type 0} → (R → Answer X) → (L → R → L → Type 0) → Type 0
Leaves {L} {R} says Promise = (before after : L) (r : R) → Promise before r after → Unsuccessful (says r) → after ≡ before

-- two lists of numbers
pub record Lists : Type 0 where
  pub starts : List ℕ
  pub lengths : List ℤ

-- a row's two numbers, and the room that it is built in
pub record Building : Type 0 where
  pub row : List ℕ
  pub room : List ℕ

pub record Lent : Type 0 where
  -- crate encode: each encoder, whose contract is of this form
  pub encode : (m : Mode) (k : Kind) (given : Option (Contents k))
      → Leaves (λ (r : Result ℕ Refused). of_encoded (encoded r)) (λ out r left. Encodes m k given out (encoded r) left)
  -- reader::row::data_row: both lists
  pub data_row : (s : List ℕ)
      → Leaves (λ (r : Result (ListSlot × ℕ) Unread). of_row (row_told r))
      (λ (x : Lists) r (y : Lists). ReadsRow s x.starts x.lengths (row_told r) y.starts y.lengths)
  -- crate host: each exported encoder, whose answer is one number. An output in memory is far shorter than the numbers that say a refusal
  pub host : (a : Option Asked)
      → Leaves (λ (n : ℕ). of_encoded (answer_by n)) (λ out n left. (length out < 18446744073709551360) × Answers a out n left)
  -- host_parts::reading::tusweram_data_row: both lists; its answer is the sixteen numbers
  pub tusweram_data_row : (s : List ℕ)
      → Leaves of_numbers (λ (x : Lists) (r : List ℕ) (y : Lists). LaysRow s x.starts x.lengths y.starts y.lengths r)
  -- crate row_builder: each call that writes, whose contract is of this form
  pub row_builder : (definition : List ℕ → Built) (p : ℕ) (xs : List ℕ)
      → Leaves (λ (r : Result Row Refused). of_built (built r)) (λ room r left. (built r ≡ definition room) × (left ≡ left_by (built r) p xs room))
  -- host_parts::building: the two numbers and the room; its answer is the refusal's number
  pub tusweram_row : (definition : Building → Built) (p : ℕ) (xs : List ℕ)
      → Leaves of_number (λ (x : Building) (n : ℕ) (y : Building). Renews (definition x) p xs x.row x.room n y.row y.room)
