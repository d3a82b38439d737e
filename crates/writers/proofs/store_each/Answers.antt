-- `writers::store_each` meets its contract.
use native.Mathlib.Omega.{arith}
use Rattle.writers.proofs.Laws.{◌then◌, wrote_as, joined_more}
use Rattle.writers.proofs.store_each.Goals as goal

pub loop-x-preserved : goal.loop-x-preserved
loop-x-preserved g c = let q = c.loop-x in
    wrote_as (q.invariant then c.store-p.ensures) (joined_more g.N.Number.bytes c.args.xs.now q.x-index c.x-item.result c.x-item.is (omega arith)) (omega arith)
