-- `decode::kinds::cancel` meets its contract: each arm is a row of the mode's table, in the table's order.
use mathlib.Core.Path.{sym, ◌∙◌}
use native.Mathlib.Omega.{arith}
use borrow.Author.Rules.{rules}
use Rattle.protocol.specs.Kinds.{find, kind_in, cancel, the_table}
use Rattle.protocol.proofs.Numbers.{whole, not_whole}
use Rattle.decode.proofs.Choices.{cut, arm, unknown}
use Rattle.decode.proofs.kinds.cancel.Goals as goal

pub returns-in_default : goal.returns-in_default
unfolding the_table
returns-in_default c = let s = c.args.buf.now in
    cut _ s cancel (not_whole 4 s 4 _ _ (sym c.in_default.ensures))

pub returns-in-80877102 : goal.returns-in-80877102
unfolding find kind_in the_table
returns-in-80877102 c =
    let tag = whole 4 _ _ _ _ (sym c.in-Some.ensures) in
    c.cancel_request.ensures ∙ arm _ _ cancel tag.is c.in-80877102.is

pub returns-in_default-code : goal.returns-in_default-code
unfolding find kind_in the_table
returns-in_default-code c =
    let tag = whole 4 _ _ _ _ (sym c.in-Some.ensures) in
    rw c.at.ensures (unknown _ _ cancel tag.is (omega (arith, tag.fits, tag.next)) (search rules))
