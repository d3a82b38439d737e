-- The loop of `writers::store_each`.
use Rattle.std.proofs.Common.{◌*◌, take}
use Rattle.writers.specs.Writing.{joined, Wrote}
use Rattle.writers.proofs.store_each.Given as goal

abbrev pub invariant-loop-x : goal.invariant-loop-x
invariant-loop-x g l = Wrote l.initial.out l.at (joined g.N.Number.bytes (take l.x-index l.xs)) (g.N.Number.WIDTH * l.x-index) l.out l.p
