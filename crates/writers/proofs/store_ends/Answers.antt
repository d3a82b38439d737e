-- `writers::store_ends` meets its contract.
use Rattle.writers.proofs.Laws.{ended}
use Rattle.writers.proofs.store_ends.Goals as goal

pub returns : goal.returns
returns g c =
    let first = rw c.unwrap-first.ensures at c.first_chunk.ensures.cases in
    let last = rw c.unwrap-last.ensures at c.last_chunk.ensures.cases in
    ended c.args.s.now first.same last.1.same c.store_block.ensures c.store_block-2.ensures c.requires.parts.0 c.requires.parts.1
