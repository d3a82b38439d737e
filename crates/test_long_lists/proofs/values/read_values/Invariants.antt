-- `test_long_lists::values::read_values`: no more values are right than were read.
use Rattle.std.proofs.Common.{◌≤◌}
use Rattle.test_long_lists.proofs.values.read_values.Given as goal

abbrev pub invariant-loop-i : goal.invariant-loop-i
invariant-loop-i l = l.pass.right ≤ l.i
