-- `listing::fill` meets its contract: the invariant says which lines are left to write.
use Rattle.std.proofs.Common.{◌≡◌, ◌+◌, ◌-◌, ◌/◌, length, refl, arith}
use Rattle.listing.proofs.Filling.{next, last}
use Rattle.listing.proofs.fill.Goals as goal

pub loop-init : goal.loop-init
loop-init c =
    let all : length c.args.out.now / 64 - 0 ≡ length c.args.out.now / 64 = omega arith in
    (omega arith, rw all (record { bytes = refl; count = omega arith; after = refl }))

pub loop-preserved : goal.loop-preserved
loop-preserved c =
    let line = c.put_line-filled.ensures in
    let less : length c.args.out.now / 64 - (c.loop.counter + 1) ≡ length c.args.out.now / 64 - c.loop.counter - 1 = omega arith in
    (omega (arith, line.short), rw less (next (omega arith) c.loop.invariant.1 line))

pub returns : goal.returns
returns c = last (omega arith) c.loop.invariant.1
