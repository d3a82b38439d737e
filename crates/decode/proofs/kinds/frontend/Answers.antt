-- `decode::kinds::frontend` meets its contract: each arm is a row of the mode's table, in the table's order.
use mathlib.Core.Path.{sym, ◌∙◌}
use native.Mathlib.Omega.{arith}
use borrow.Author.Rules.{rules}
use Rattle.protocol.specs.Kinds.{find, kind_in, frontend, the_table}
use Rattle.protocol.proofs.Numbers.{whole, not_whole}
use Rattle.decode.proofs.Choices.{cut, arm, unknown}
use Rattle.decode.proofs.kinds.frontend.Goals as goal

pub returns-in_default : goal.returns-in_default
unfolding the_table
returns-in_default c = let s = c.args.buf.now in
    cut _ s frontend (not_whole 1 s 0 _ _ (sym c.in_default.ensures))

pub returns-in-80 : goal.returns-in-80
unfolding find kind_in the_table
returns-in-80 c =
    let tag = whole 1 _ _ _ _ (sym c.in-Some.ensures) in
    c.parse.ensures ∙ arm _ _ frontend tag.is c.in-80.is

pub returns-in-66 : goal.returns-in-66
unfolding find kind_in the_table
returns-in-66 c =
    let tag = whole 1 _ _ _ _ (sym c.in-Some.ensures) in
    c.bind.ensures ∙ arm _ _ frontend tag.is c.in-66.is

pub returns-in-67 : goal.returns-in-67
unfolding find kind_in the_table
returns-in-67 c =
    let tag = whole 1 _ _ _ _ (sym c.in-Some.ensures) in
    c.close.ensures ∙ arm _ _ frontend tag.is c.in-67.is

pub returns-in-68 : goal.returns-in-68
unfolding find kind_in the_table
returns-in-68 c =
    let tag = whole 1 _ _ _ _ (sym c.in-Some.ensures) in
    c.describe.ensures ∙ arm _ _ frontend tag.is c.in-68.is

pub returns-in-69 : goal.returns-in-69
unfolding find kind_in the_table
returns-in-69 c =
    let tag = whole 1 _ _ _ _ (sym c.in-Some.ensures) in
    c.execute.ensures ∙ arm _ _ frontend tag.is c.in-69.is

pub returns-in-72 : goal.returns-in-72
unfolding find kind_in the_table
returns-in-72 c =
    let tag = whole 1 _ _ _ _ (sym c.in-Some.ensures) in
    c.flush.ensures ∙ arm _ _ frontend tag.is c.in-72.is

pub returns-in-83 : goal.returns-in-83
unfolding find kind_in the_table
returns-in-83 c =
    let tag = whole 1 _ _ _ _ (sym c.in-Some.ensures) in
    c.sync.ensures ∙ arm _ _ frontend tag.is c.in-83.is

pub returns-in-99 : goal.returns-in-99
unfolding find kind_in the_table
returns-in-99 c =
    let tag = whole 1 _ _ _ _ (sym c.in-Some.ensures) in
    c.copy_done.ensures ∙ arm _ _ frontend tag.is c.in-99.is

pub returns-in-100 : goal.returns-in-100
unfolding find kind_in the_table
returns-in-100 c =
    let tag = whole 1 _ _ _ _ (sym c.in-Some.ensures) in
    c.copy_data.ensures ∙ arm _ _ frontend tag.is c.in-100.is

pub returns-in-102 : goal.returns-in-102
unfolding find kind_in the_table
returns-in-102 c =
    let tag = whole 1 _ _ _ _ (sym c.in-Some.ensures) in
    c.copy_fail.ensures ∙ arm _ _ frontend tag.is c.in-102.is

pub returns-in-81 : goal.returns-in-81
unfolding find kind_in the_table
returns-in-81 c =
    let tag = whole 1 _ _ _ _ (sym c.in-Some.ensures) in
    c.query.ensures ∙ arm _ _ frontend tag.is c.in-81.is

pub returns-in-88 : goal.returns-in-88
unfolding find kind_in the_table
returns-in-88 c =
    let tag = whole 1 _ _ _ _ (sym c.in-Some.ensures) in
    c.terminate.ensures ∙ arm _ _ frontend tag.is c.in-88.is

pub returns-in_default-type_byte : goal.returns-in_default-type_byte
unfolding find kind_in the_table
returns-in_default-type_byte c =
    let tag = whole 1 _ _ _ _ (sym c.in-Some.ensures) in
    rw c.at.ensures (unknown _ _ frontend tag.is (omega (arith, tag.fits, tag.next)) (search rules))
