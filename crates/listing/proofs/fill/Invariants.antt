-- The loop of `listing::fill`.
use Rattle.std.proofs.Common.{◌+◌, ◌-◌, ◌*◌, ◌/◌, ◌≤◌, length}
use Rattle.listing.specs.Listing.{lines_of}
use Rattle.listing.proofs.Filling.{Rest}
use Rattle.listing.proofs.fill.Given as goal

abbrev pub invariant-loop : goal.invariant-loop
invariant-loop l =
    (l.filled.count + 64 * (length l.initial.out / 64 - l.counter) ≤ length l.initial.out)
    × Rest l.input (length l.initial.out / 64 - l.counter) l.filled.left l.out l.filled.count l.initial.out (lines_of (length l.initial.out / 64) l.input l.initial.filled.left)
