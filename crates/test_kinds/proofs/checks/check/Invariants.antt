-- `test_kinds::checks::check`: no count is above the number of tags that were looked at.
use Rattle.std.proofs.Common.{◌≤◌}
use Rattle.test_kinds.proofs.checks.check.Given as goal

abbrev pub invariant-loop-number : goal.invariant-loop-number
invariant-loop-number g l = (l.tried ≤ l.number) × ((l.in_table ≤ l.number) × (l.wrong ≤ l.number))
