-- `frames::read`: the count stays within the room, whose length stays.
use Rattle.std.proofs.Common.{length, ◌-◌, ◌≤◌}
use Rattle.frames.proofs.read.Given as goal

abbrev pub invariant-loop-count : goal.invariant-loop-count
invariant-loop-count g l = l.count ≤ length l.room

abbrev pub decreases-loop-count : goal.decreases-loop-count
decreases-loop-count g l = length l.room - l.count
