-- What is known of a frame that is to be written.
use Prim.Native.Nat.{ℕ, ◌+◌, ◌≤◌, min}
use mathlib.Core.Bool.{◌&&◌}
use mathlib.Core.Path.{◌≡◌}
use native.Mathlib.Omega.{arith}
use borrow.Author.Tests.{leb-true}
use lib.Dec.{leb}
use Rattle.protocol.specs.Encoded as N
use Rattle.protocol.specs.Fields.{most, signed_count}
use Rattle.protocol.specs.Kinds.{large, large_frame}
use Rattle.writers.specs.Writing.{largest, verdict_of}
use Rattle.writers.proofs.Encoding.{room_by}
use Rattle.protocol.proofs.Basics.{and_left}
use Rattle.row_fields.specs.declared.Pass.{Pass}
use Rattle.row_fields.specs.Passes.{answered}

-- n bytes, for what c measured of count fields
pub record Roomy (c : Pass) (count room n : ℕ) : Type 0 where
  pub few : count ≤ most signed_count
  pub whole : n ≡ c.at + 7
  pub small : n ≤ large_frame
  pub fits : n ≤ room

pub roomy_of : (c : Pass) (count room n : ℕ) → answered c count room ≡ N.Done n → Roomy c count room n
unfolding verdict_of
roomy_of c count room n e =
    let size = min (c.at + 6) largest in
    let h = room_by large size (size + 1) room n (leb count (most signed_count) && c.ok) e in
    record { few = leb-true _ _ (and_left (leb count (most signed_count)) c.ok h.0); whole = omega (arith, h); small = omega (arith, h); fits = omega (arith, h) }
