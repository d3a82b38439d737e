-- The loop of `scan::clear`: what it knows of the bytes so far.
use Rattle.std.proofs.Common.{◌≡◌, take}
use Rattle.scan.specs.Zero.{is_clear}
use Rattle.scan.proofs.clear.Given as goal

abbrev pub invariant-loop-byte : goal.invariant-loop-byte
invariant-loop-byte g l = l.clear ≡ is_clear (take l.byte-index l.block)
