-- The loop of `encode::put_values`.
use Prim.Native.Nat.{◌+◌, ◌*◌}
use mathlib.Core.Bool.{true}
use mathlib.Core.Path.{◌≡◌}
use lib.ListN.{length, drop}
use Rattle.writers.specs.Given.{is_some}
use Rattle.writers.specs.Writing.{write}
use Rattle.protocol.specs.Encode.{values_given}
use Rattle.writers.proofs.ValueLaws.{values_bytes}
use Rattle.encode.proofs.put_values.Given as goal

abbrev pub invariant-loop-len : goal.invariant-loop-len
invariant-loop-len l =
    (l.p + length l.rest ≡ l.initial.p + 4 * l.len-index + length l.joined) × (length l.out ≡ length l.initial.out)
    × (is_some (values_given (drop l.len-index l.lengths) l.rest) ≡ true)
    × (write l.out l.p (values_bytes (drop l.len-index l.lengths) l.rest) ≡ write l.initial.out l.initial.p (values_bytes l.lengths l.joined))
