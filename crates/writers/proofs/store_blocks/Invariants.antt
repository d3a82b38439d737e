-- The loop of `writers::store_blocks`: what is not left is stored.
use Rattle.std.proofs.Common.{◌-◌, ◌≤◌, ◌≡◌, length, take, drop}
use Rattle.writers.specs.Writing.{Wrote}
use Rattle.writers.proofs.store_blocks.Given as goal

abbrev pub invariant-loop-rest : goal.invariant-loop-rest
invariant-loop-rest l =
    (length l.rest ≤ length l.s)
    × (l.rest ≡ drop (length l.s - length l.rest) l.s)
    × Wrote l.initial.out l.at (take (length l.s - length l.rest) l.s) (length l.s - length l.rest) l.out l.p

abbrev pub decreases-loop-rest : goal.decreases-loop-rest
decreases-loop-rest l = length l.rest
