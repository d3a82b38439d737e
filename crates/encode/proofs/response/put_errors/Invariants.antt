-- The loop of `encode::response::put_errors`.
use Prim.Native.Nat.{◌+◌, ◌*◌}
use mathlib.Core.Bool.{true}
use mathlib.Core.Path.{◌≡◌}
use lib.ListN.{length, drop}
use Rattle.protocol.specs.Encode.{error_fields_given}
use Rattle.writers.specs.Given.{is_some}
use Rattle.writers.specs.Writing.{write}
use Rattle.writers.proofs.ErrorLaws.{errors_bytes}
use Rattle.encode.proofs.response.put_errors.Given as goal

abbrev pub invariant-loop-code : goal.invariant-loop-code
invariant-loop-code l =
    (length l.codes ≡ length l.lengths)
    × (l.p + length l.rest ≡ l.at + 2 * length l.yielded + length l.joined) × (length l.out ≡ length l.initial.out)
    × (is_some (error_fields_given (drop (length l.yielded) l.codes) (drop (length l.yielded) l.lengths) l.rest) ≡ true)
    × (write l.out l.p (errors_bytes (drop (length l.yielded) l.codes) (drop (length l.yielded) l.lengths) l.rest) ≡ write l.initial.out l.at (errors_bytes l.codes l.lengths l.joined))
