-- `test_long_error::fields::write_pass`: no more fields are right than were read.
use Rattle.std.proofs.Common.{◌≤◌}
use Rattle.test_long_error.proofs.fields.write_pass.Given as goal

abbrev pub invariant-loop-i : goal.invariant-loop-i
invariant-loop-i l = l.right ≤ l.i
