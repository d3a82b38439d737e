-- What is proved of the listing's steps: what stands at a place of a stream (docs/FORMAT.md 10). That the lines of a listing are those of its steps
-- is proved in crate listing (proofs/Printed).
use Rattle.std.specs.Prelude.{ℕ, ◌≤◌, ◌<◌, List, ◌↔◌, ◌≡◌, length, drop}
use Rattle.std.proofs.Math.Option.{some, none}
use Rattle.protocol.specs.declared.Message.{Message}
use Rattle.protocol.specs.declared.Rules.{Rules}
use Rattle.protocol.specs.Answers.{success, needs_more, refusal, of_decoded}
use Rattle.protocol.specs.Bytes.{Bytes}
use Rattle.protocol.specs.Stream.{step_at}
use Rattle.listing.specs.Listing.{of_step, step_of}
use Rattle.listing.specs.Step.{Step}
use Rattle.laws.specs.Statements.{Decoder, IsNumbered, decode_numbers}

-- At p no byte is left exactly where the step says whole, with no message and nothing consumed. Else it says what decoding says of the bytes from p
-- on: the same message and bytes, need-more, or the same number with the place where the unread frame begins.
pub record StepSays (decode : Decoder) (rules : Rules) (s : List ℕ) (p : ℕ) (step : Step) : Type 0 where
  pub whole : (of_step p step ≡ success none 0) ↔ (length s ≤ p)
  pub frame : (m : Message) (n : ℕ)
      → (of_step p step ≡ success (some m) n) ↔ ((p < length s) × (of_decoded (decode rules (drop p s)) ≡ success m n))
  pub need_more : (of_step p step ≡ needs_more) ↔ ((p < length s) × (of_decoded (decode rules (drop p s)) ≡ needs_more))
  pub refused : (number place : ℕ)
      → (of_step p step ≡ refusal number place)
      ↔ ((place ≡ p) × (p < length s) × ((at : ℕ) × (of_decoded (decode rules (drop p s)) ≡ refusal number at)))

-- every step that meets the contract of listing::step_at
abbrev pub Steps : Decoder → Type 0
Steps decode = (rules : Rules) (s : List ℕ) (p : ℕ) (step : Step) → step_of step ≡ step_at rules s p → StepSays decode rules s p step

-- A step that is refused has a number from 1 to 8; and one that is refused or needs more consumes 0 and gives no message.
abbrev pub StepsNumbered : Type 0
StepsNumbered =
    (rules : Rules) (s : List ℕ) (p : ℕ) (step : Step) → Bytes s → step_of step ≡ step_at rules s p
    → IsNumbered decode_numbers (of_step p step)
