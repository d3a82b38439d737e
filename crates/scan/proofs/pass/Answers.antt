-- `scan::pass` meets its contract.
use Rattle.scan.proofs.Zeros.{past_clear}
use Rattle.scan.proofs.pass.Goals as goal

pub returns-in-Some : goal.returns-in-Some
returns-in-Some g c = past_clear c.args.s.now c.args.from g.row.N c.requires.within c.in-Some.ensures.cases c.if-clear.ensures
