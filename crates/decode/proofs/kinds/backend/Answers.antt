-- `decode::kinds::backend` meets its contract: each arm is a row of the mode's table, in the table's order.
use mathlib.Core.Path.{sym, ◌∙◌}
use native.Mathlib.Omega.{arith}
use borrow.Author.Rules.{rules}
use Rattle.protocol.specs.Kinds.{find, kind_in, backend, the_table}
use Rattle.protocol.proofs.Numbers.{whole, not_whole}
use Rattle.decode.proofs.Choices.{cut, arm, unknown}
use Rattle.decode.proofs.kinds.backend.Goals as goal

pub returns-in_default : goal.returns-in_default
unfolding the_table
returns-in_default c = let s = c.args.buf.now in
    cut _ s backend (not_whole 1 s 0 _ _ (sym c.in_default.ensures))

pub returns-in-49 : goal.returns-in-49
unfolding find kind_in the_table
returns-in-49 c =
    let tag = whole 1 _ _ _ _ (sym c.in-Some.ensures) in
    c.parse_complete.ensures ∙ arm _ _ backend tag.is c.in-49.is

pub returns-in-50 : goal.returns-in-50
unfolding find kind_in the_table
returns-in-50 c =
    let tag = whole 1 _ _ _ _ (sym c.in-Some.ensures) in
    c.bind_complete.ensures ∙ arm _ _ backend tag.is c.in-50.is

pub returns-in-51 : goal.returns-in-51
unfolding find kind_in the_table
returns-in-51 c =
    let tag = whole 1 _ _ _ _ (sym c.in-Some.ensures) in
    c.close_complete.ensures ∙ arm _ _ backend tag.is c.in-51.is

pub returns-in-115 : goal.returns-in-115
unfolding find kind_in the_table
returns-in-115 c =
    let tag = whole 1 _ _ _ _ (sym c.in-Some.ensures) in
    c.portal_suspended.ensures ∙ arm _ _ backend tag.is c.in-115.is

pub returns-in-110 : goal.returns-in-110
unfolding find kind_in the_table
returns-in-110 c =
    let tag = whole 1 _ _ _ _ (sym c.in-Some.ensures) in
    c.no_data.ensures ∙ arm _ _ backend tag.is c.in-110.is

pub returns-in-73 : goal.returns-in-73
unfolding find kind_in the_table
returns-in-73 c =
    let tag = whole 1 _ _ _ _ (sym c.in-Some.ensures) in
    c.empty_query_response.ensures ∙ arm _ _ backend tag.is c.in-73.is

pub returns-in-99 : goal.returns-in-99
unfolding find kind_in the_table
returns-in-99 c =
    let tag = whole 1 _ _ _ _ (sym c.in-Some.ensures) in
    c.copy_done.ensures ∙ arm _ _ backend tag.is c.in-99.is

pub returns-in-84 : goal.returns-in-84
unfolding find kind_in the_table
returns-in-84 c =
    let tag = whole 1 _ _ _ _ (sym c.in-Some.ensures) in
    c.row_description.ensures ∙ arm _ _ backend tag.is c.in-84.is

pub returns-in-116 : goal.returns-in-116
unfolding find kind_in the_table
returns-in-116 c =
    let tag = whole 1 _ _ _ _ (sym c.in-Some.ensures) in
    c.parameter_description.ensures ∙ arm _ _ backend tag.is c.in-116.is

pub returns-in-68 : goal.returns-in-68
unfolding find kind_in the_table
returns-in-68 c =
    let tag = whole 1 _ _ _ _ (sym c.in-Some.ensures) in
    c.data_row.ensures ∙ arm _ _ backend tag.is c.in-68.is

pub returns-in-67 : goal.returns-in-67
unfolding find kind_in the_table
returns-in-67 c =
    let tag = whole 1 _ _ _ _ (sym c.in-Some.ensures) in
    c.command_complete.ensures ∙ arm _ _ backend tag.is c.in-67.is

pub returns-in-90 : goal.returns-in-90
unfolding find kind_in the_table
returns-in-90 c =
    let tag = whole 1 _ _ _ _ (sym c.in-Some.ensures) in
    c.ready_for_query.ensures ∙ arm _ _ backend tag.is c.in-90.is

pub returns-in-69 : goal.returns-in-69
unfolding find kind_in the_table
returns-in-69 c =
    let tag = whole 1 _ _ _ _ (sym c.in-Some.ensures) in
    c.error_response.ensures ∙ arm _ _ backend tag.is c.in-69.is

pub returns-in-78 : goal.returns-in-78
unfolding find kind_in the_table
returns-in-78 c =
    let tag = whole 1 _ _ _ _ (sym c.in-Some.ensures) in
    c.notice_response.ensures ∙ arm _ _ backend tag.is c.in-78.is

pub returns-in-71 : goal.returns-in-71
unfolding find kind_in the_table
returns-in-71 c =
    let tag = whole 1 _ _ _ _ (sym c.in-Some.ensures) in
    c.copy_in_response.ensures ∙ arm _ _ backend tag.is c.in-71.is

pub returns-in-72 : goal.returns-in-72
unfolding find kind_in the_table
returns-in-72 c =
    let tag = whole 1 _ _ _ _ (sym c.in-Some.ensures) in
    c.copy_out_response.ensures ∙ arm _ _ backend tag.is c.in-72.is

pub returns-in-87 : goal.returns-in-87
unfolding find kind_in the_table
returns-in-87 c =
    let tag = whole 1 _ _ _ _ (sym c.in-Some.ensures) in
    c.copy_both_response.ensures ∙ arm _ _ backend tag.is c.in-87.is

pub returns-in-65 : goal.returns-in-65
unfolding find kind_in the_table
returns-in-65 c =
    let tag = whole 1 _ _ _ _ (sym c.in-Some.ensures) in
    c.notification_response.ensures ∙ arm _ _ backend tag.is c.in-65.is

pub returns-in-100 : goal.returns-in-100
unfolding find kind_in the_table
returns-in-100 c =
    let tag = whole 1 _ _ _ _ (sym c.in-Some.ensures) in
    c.copy_data.ensures ∙ arm _ _ backend tag.is c.in-100.is

pub returns-in-83 : goal.returns-in-83
unfolding find kind_in the_table
returns-in-83 c =
    let tag = whole 1 _ _ _ _ (sym c.in-Some.ensures) in
    c.parameter_status.ensures ∙ arm _ _ backend tag.is c.in-83.is

pub returns-in-75 : goal.returns-in-75
unfolding find kind_in the_table
returns-in-75 c =
    let tag = whole 1 _ _ _ _ (sym c.in-Some.ensures) in
    c.backend_key_data.ensures ∙ arm _ _ backend tag.is c.in-75.is

pub returns-in_default-type_byte : goal.returns-in_default-type_byte
unfolding find kind_in the_table
returns-in_default-type_byte c =
    let tag = whole 1 _ _ _ _ (sym c.in-Some.ensures) in
    rw c.at.ensures (unknown _ _ backend tag.is (omega (arith, tag.fits, tag.next)) (search rules))
