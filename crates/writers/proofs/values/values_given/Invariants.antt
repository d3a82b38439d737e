-- The loop of `writers::values::values_given`.
use Rattle.std.proofs.Common.{◌≡◌, ◌-◌, ◌≤◌, length, drop}
use Rattle.protocol.specs.Encode.{values_given}
use Rattle.writers.specs.Given.{is_some}
use Rattle.writers.proofs.values.values_given.Given as goal

abbrev pub invariant-loop-n : goal.invariant-loop-n
invariant-loop-n l = record {
  within : l.left ≤ length l.fn.joined;
  same : is_some (values_given l.lengths l.fn.joined) ≡ is_some (values_given (drop l.n-index l.lengths) (drop (length l.fn.joined - l.left) l.fn.joined));
}
