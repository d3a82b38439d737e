-- `writers::texts::texts_given` meets its contract.
use Prim.Native.Nat.{◌+◌, ◌-◌}
use mathlib.Core.Path.{◌≡◌, refl, ◌∙◌, sym}
use native.Mathlib.Omega.{arith}
use borrow.Author.Tests.{le-leb, lt-leb}
use lib.ListN.{length, get_or}
use Rattle.writers.proofs.TextLaws.{text_next, text_spent}
use Rattle.writers.proofs.texts.texts_given.Goals as goal

pub returns-then-left-n : goal.returns-then-left-n
returns-then-left-n c = let q = c.loop-n in
    let a = c.args in
    let j = length a.joined.now - q.left in
    sym (q.invariant.same ∙ text_next a.lengths.now a.joined.now q.n-index j (omega arith) ∙ rw (lt-leb (get_or a.lengths.now q.n-index 0) (length a.joined.now - j) (omega arith)) refl)

pub loop-n-preserved : goal.loop-n-preserved
loop-n-preserved c = let q = c.loop-n in
    let a = c.args in
    let n = get_or a.lengths.now q.n-index 0 in
    let j = length a.joined.now - q.left in
    let e : length a.joined.now - (q.left - n) ≡ j + n = omega arith in
    record {
      within = omega arith;
      same = rw e (q.invariant.same ∙ text_next a.lengths.now a.joined.now q.n-index j (omega arith) ∙ rw (le-leb n (length a.joined.now - j) (omega arith)) refl);
    }

pub returns : goal.returns
returns c = let q = c.loop-n in
    let a = c.args in
    sym (q.invariant.same ∙ text_spent a.lengths.now a.joined.now q.n-index q.left c.loop-n-test.false q.invariant.within)
