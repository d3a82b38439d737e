-- The loop of `encode::startup::put_parameters`.
use Prim.Native.Nat.{◌+◌}
use mathlib.Core.Bool.{true}
use mathlib.Core.Path.{◌≡◌}
use lib.ListN.{length, drop}
use Rattle.writers.specs.Given.{is_some}
use Rattle.writers.specs.Writing.{write}
use Rattle.protocol.specs.Encode.{texts_given}
use Rattle.writers.proofs.TextLaws.{texts_bytes}
use Rattle.encode.proofs.startup.put_parameters.Given as goal

abbrev pub invariant-loop-len : goal.invariant-loop-len
invariant-loop-len l =
    (l.p + length l.rest ≡ l.at + l.len-index + length l.joined) × (length l.out ≡ length l.initial.out)
    × (is_some (texts_given (drop l.len-index l.lengths) l.rest) ≡ true)
    × (write l.out l.p (texts_bytes (drop l.len-index l.lengths) l.rest) ≡ write l.initial.out l.at (texts_bytes l.lengths l.joined))
