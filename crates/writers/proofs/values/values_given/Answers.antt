-- `writers::values::values_given` meets its contract.
use Prim.Native.Nat.{◌+◌, ◌-◌}
use mathlib.Core.Path.{◌≡◌, refl, ◌∙◌, sym}
use native.Mathlib.Omega.{arith}
use borrow.Author.Tests.{le-leb, lt-leb}
use lib.ListN.{length}
use Rattle.writers.proofs.ValueLaws.{value_below, value_next, value_spent}
use Rattle.writers.proofs.values.values_given.Goals as goal

pub returns-then-n-ltminus1 : goal.returns-then-n-ltminus1
returns-then-n-ltminus1 c = let q = c.loop-n in
    let a = c.args in
    sym (q.invariant.same ∙ value_below a.lengths.now a.joined.now q.n-index (length a.joined.now - q.left) (omega arith) (omega arith) c.if-n-ltminus1.true)

pub returns-then-left-size : goal.returns-then-left-size
returns-then-left-size c = let q = c.loop-n in
    let a = c.args in
    let j = length a.joined.now - q.left in
    sym (q.invariant.same ∙ value_next a.lengths.now a.joined.now q.n-index j (omega arith) (omega arith) c.size_of-size.ensures c.if-n-ltminus1.false ∙ rw (lt-leb c.size_of-size.result (length a.joined.now - j) (omega arith)) refl)

pub loop-n-preserved : goal.loop-n-preserved
loop-n-preserved c = let q = c.loop-n in
    let a = c.args in
    let n = c.size_of-size.result in
    let j = length a.joined.now - q.left in
    let e : length a.joined.now - (q.left - n) ≡ j + n = omega arith in
    record {
      within = omega arith;
      same = rw e (q.invariant.same ∙ value_next a.lengths.now a.joined.now q.n-index j (omega arith) (omega arith) c.size_of-size.ensures c.if-n-ltminus1.false ∙ rw (le-leb n (length a.joined.now - j) (omega arith)) refl);
    }

pub returns : goal.returns
returns c = let q = c.loop-n in
    let a = c.args in
    sym (q.invariant.same ∙ value_spent a.lengths.now a.joined.now q.n-index q.left c.loop-n-test.false q.invariant.within)
