-- `decode::kinds::gss_answer` meets its contract: each arm is a row of the mode's table, in the table's order.
use mathlib.Core.Path.{sym, ◌∙◌}
use native.Mathlib.Omega.{arith}
use borrow.Author.Rules.{rules}
use Rattle.protocol.specs.Kinds.{find, kind_in, bare, gss_answer, gss_accept, gss_refuse, the_table}
use Rattle.protocol.proofs.Numbers.{whole, not_whole}
use Rattle.envelope.proofs.Points.{made_as}
use Rattle.decode.proofs.Choices.{cut, arm, unknown, lone}
use Rattle.decode.proofs.kinds.gss_answer.Goals as goal

pub returns-in_default : goal.returns-in_default
unfolding the_table
returns-in_default c = let s = c.args.buf.now in
    cut _ s gss_answer (not_whole 1 s 0 _ _ (sym c.in_default.ensures))

pub returns-in-71 : goal.returns-in-71
unfolding find kind_in the_table
returns-in-71 c =
    let tag = whole 1 _ _ _ _ (sym c.in-Some.ensures) in
    lone c.args.rules c.args.buf.now _ _ (omega (arith, tag.fits, tag.next)) ∙ made_as _ bare gss_accept _ ∙ arm _ _ gss_answer tag.is c.in-71.is

pub returns-in-78 : goal.returns-in-78
unfolding find kind_in the_table
returns-in-78 c =
    let tag = whole 1 _ _ _ _ (sym c.in-Some.ensures) in
    lone c.args.rules c.args.buf.now _ _ (omega (arith, tag.fits, tag.next)) ∙ made_as _ bare gss_refuse _ ∙ arm _ _ gss_answer tag.is c.in-78.is

pub returns-in_default-answer : goal.returns-in_default-answer
unfolding find kind_in the_table
returns-in_default-answer c =
    let tag = whole 1 _ _ _ _ (sym c.in-Some.ensures) in
    rw c.at.ensures (unknown _ _ gss_answer tag.is (omega (arith, tag.fits, tag.next)) (search rules))
