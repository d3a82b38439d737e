-- The number that an exported encoder answers tells the encoder's whole answer: no size comes near the numbers of the refusals.
use Prim.Native.Nat.{ℕ, ◌≤◌, ◌<◌}
use mathlib.Core.Bool.{Bool, true, false, cond}
use mathlib.Core.List.{List}
use mathlib.Core.Option.{Option, some, none}
use mathlib.Core.Path.{◌≡◌, refl}
use native.Mathlib.Omega.{arith}
use borrow.Author.Tests.{lt-ltb, ltb-false}
use lib.Dec.{ltb}
use lib.ListN.{length}
use Rattle.protocol.specs.Encoded as N
use Rattle.protocol.specs.Encode.{encoded_by}
use Rattle.protocol.specs.Kinds.{Kind, Mode}
use Rattle.protocol.specs.Refusals.{length_above_limit, output_too_short, not_representable}
use Rattle.protocol.specs.Rules.{rules_of}
use Rattle.protocol.specs.WellFormed.{Contents, body_bytes, length_of, frame, all_able}
use Rattle.host.specs.Asked.{Asked, encoded_as, answer_number, answer_by, answer_of}

module _ (room : ℕ) (small : room < 18446744073709551360) where
  -- by what the encoder tests
  by_tests : (able over short : Bool) (size : ℕ) → ltb room size ≡ short
      → answer_by (answer_number (cond able (cond over (N.Refused length_above_limit 0) (cond short (N.Refused output_too_short 0) (N.Done size))) (N.Refused not_representable 0)))
      ≡ cond able (cond over (N.Refused length_above_limit 0) (cond short (N.Refused output_too_short 0) (N.Done size))) (N.Refused not_representable 0)
  by_tests false over short size t = refl
  by_tests true true short size t = refl
  by_tests true false true size t = refl
  by_tests true false false size t =
      let fits : size ≤ room = ltb-false room size t in
      let low : size < 18446744073709551360 = omega arith in
      rw (lt-ltb size 18446744073709551360 low) refl

  by_given : (m : Mode) (k : Kind) (given : Option (Contents k)) → answer_by (answer_number (encoded_by m k given room)) ≡ encoded_by m k given room
  unfolding encoded_by
  by_given m k none = refl
  by_given m k (some c) =
      by_tests (all_able (rules_of m.mode) k c) (ltb k.limit (length_of m.envelope (length (body_bytes k c)))) (ltb room (length (frame m.envelope k c))) (length (frame m.envelope k c)) refl

  by_asked : (a : Option Asked) → answer_by (answer_number (encoded_as a room)) ≡ encoded_as a room
  unfolding encoded_as
  by_asked none = refl
  by_asked (some a) = by_given a.mode a.kind a.given

-- an output is always that short: it is in memory
pub read_back : (a : Option Asked) (out : List ℕ) → length out < 18446744073709551360 → answer_by (answer_of a out) ≡ encoded_as a (length out)
read_back a out small = by_asked (length out) small a
