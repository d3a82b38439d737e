-- What a writer of arguments does that may be no content.
use Rattle.std.specs.Prelude.{ℕ, ◌+◌, List, ◌≡◌}
use Rattle.std.proofs.Math.Option.{Option, some}
use Rattle.protocol.specs.Fields.{Field, Content, bytes}
use Rattle.writers.specs.Writing.{Wrote}

-- out is d with the bytes of the field x stored from p on, which are n, where a content of it is given
pub record WroteGiven (x : Field) (given : Option (Content x)) (d : List ℕ) (p n : ℕ) (out : List ℕ) (next : ℕ) : Type 0 where
  pub field : (c : Content x) → given ≡ some c → Wrote d p (bytes x c) n out next
  pub place : next ≡ p + n
