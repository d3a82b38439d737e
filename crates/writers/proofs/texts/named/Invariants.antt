-- The loop of `writers::texts::named`.
use Rattle.std.proofs.Common.{◌≡◌, length}
use Rattle.writers.specs.Given.{named}
use Rattle.writers.proofs.texts.named.Given as goal

abbrev pub invariant-loop-rest : goal.invariant-loop-rest
invariant-loop-rest l = named l.rest ≡ named l.fn.lengths

abbrev pub decreases-loop-rest : goal.decreases-loop-rest
decreases-loop-rest l = length l.rest
