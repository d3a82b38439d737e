-- `reader::row::fill` meets its contract: each turn stores one entry, and what is left to store stays the same.
use Rattle.std.proofs.Common.{◌∙◌, arith, w32}
use Rattle.protocol.proofs.Basics.{back}
use Rattle.reader.proofs.Places.{length_fits, turn, stopped, ended, laid}
use Rattle.reader.proofs.row.fill.Goals as goal
use Rattle.reader.proofs.row.fill.Invariants.{start, len}

pub returns-in_default : goal.returns-in_default
returns-in_default c = let q = c.loop-i in
    let a = c.args in
    let is = c.in_default.ensures in (
      stopped start a.frame.now q.starts _ q.i a.count q.place (omega arith) is q.invariant.0 ∙ laid start a.frame.now a.starts.now a.count a.at (omega arith),
      stopped len a.frame.now q.lengths _ q.i a.count q.place (omega arith) is q.invariant.1 ∙ laid len a.frame.now a.lengths.now a.count a.at (omega arith),
    )

pub loop-i-preserved : goal.loop-i-preserved
loop-i-preserved c = let q = c.loop-i in
    let a = c.args in
    let x = c.in-Some.entry in
    let is = c.in-Some.ensures in (
      turn start a.frame.now q.starts _ q.i a.count q.place x (omega arith) is q.invariant.0,
      rw (back w32 x.length (length_fits _ x is)) (turn len a.frame.now q.lengths _ q.i a.count q.place x (omega arith) is q.invariant.1),
    )

pub returns : goal.returns
returns c = let q = c.loop-i in
    let a = c.args in (
      ended start a.frame.now q.starts _ q.i a.count q.place (omega arith) q.invariant.0 ∙ laid start a.frame.now a.starts.now a.count a.at (omega arith),
      ended len a.frame.now q.lengths _ q.i a.count q.place (omega arith) q.invariant.1 ∙ laid len a.frame.now a.lengths.now a.count a.at (omega arith),
    )
