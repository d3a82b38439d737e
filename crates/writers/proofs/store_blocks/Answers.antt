-- `writers::store_blocks` meets its contract.
use Rattle.std.proofs.Common.{◌+◌, ◌-◌, ◌≤◌, ◌≡◌, ◌∙◌, ap, length, take, drop, arith}
use Rattle.std.proofs.lemmas.List.{drop-drop}
use Rattle.writers.specs.Writing.{Wrote}
use Rattle.writers.proofs.Laws.{further, overlaid}
use Rattle.writers.proofs.store_blocks.Goals as goal

pub loop-rest-preserved : goal.loop-rest-preserved
loop-rest-preserved c = let q = c.loop-rest in
    let s = c.args.s.now in
    let i = length s - length q.rest.now in
    let k = rw c.unwrap.ensures at c.split_first_chunk.ensures.cases in
    let low = q.invariant.0 in
    let left = k.2 in
    let block : c.unwrap.result.0.now ≡ take 64 (drop i s) = k.0 ∙ ap (take 64) q.invariant.1 in
    let after : c.unwrap.result.1.now ≡ drop (i + 64) s = k.1 ∙ ap (drop 64) q.invariant.1 ∙ drop-drop 64 i s in
    let place : i + 64 ≡ length s - length c.unwrap.result.1.now = omega (arith, low, left) in
    let w = further s q.invariant.2 block c.store_block-p.ensures (omega (arith, low, left)) in
    (omega (arith, low, left), rw place at after, rw place at w)

pub returns : goal.returns
returns c = let q = c.loop-rest in
    let last = rw c.unwrap-last.ensures at c.last_chunk.ensures.cases in
    overlaid c.args.s.now q.invariant.2 last.1.same c.store_block.ensures c.requires.1 (omega (arith, q.invariant.0, c.loop-rest-test.false)) (omega arith)
