-- `host::encoding::plain` meets its contract: each arm is a row of the table.
use mathlib.Core.List.{◌++◌}
use mathlib.Core.Path.{refl}
use mir.Syntax.{w32}
use mir.ValLaws.{to_z-of_z}
use Rattle.protocol.specs.Kinds.{find, the_table}
use Rattle.host.specs.Asked.{asked_in, field_rows, bare_rows}
use Rattle.host.proofs.Choices.{arm, chosen, past}
use borrow.Author.Rules.{rules}
use Rattle.host.proofs.encoding.plain.Goals as goal

pub returns-in-3 : goal.returns-in-3
unfolding the_table asked_in find
returns-in-3 c = arm (((field_rows c.args.byte c.args.first c.args.second c.args.one.now c.args.two.now) ++ bare_rows)) c.in-3.is c.close.ensures refl

pub returns-in-4 : goal.returns-in-4
unfolding the_table asked_in find
returns-in-4 c = arm (((field_rows c.args.byte c.args.first c.args.second c.args.one.now c.args.two.now) ++ bare_rows)) c.in-4.is c.describe.ensures refl

pub returns-in-5 : goal.returns-in-5
unfolding the_table asked_in find
returns-in-5 c = arm (((field_rows c.args.byte c.args.first c.args.second c.args.one.now c.args.two.now) ++ bare_rows)) c.in-5.is (rw (to_z-of_z w32 c.args.first c.ranges.first) at c.execute.ensures) refl

pub returns-in-9 : goal.returns-in-9
unfolding the_table asked_in find
returns-in-9 c = arm (((field_rows c.args.byte c.args.first c.args.second c.args.one.now c.args.two.now) ++ bare_rows)) c.in-9.is c.copy_data.ensures.from_frontend refl

pub returns-in-10 : goal.returns-in-10
unfolding the_table asked_in find
returns-in-10 c = arm (((field_rows c.args.byte c.args.first c.args.second c.args.one.now c.args.two.now) ++ bare_rows)) c.in-10.is c.copy_fail.ensures refl

pub returns-in-20 : goal.returns-in-20
unfolding the_table asked_in find
returns-in-20 c = arm (((field_rows c.args.byte c.args.first c.args.second c.args.one.now c.args.two.now) ++ bare_rows)) c.in-20.is c.command_complete.ensures refl

pub returns-in-21 : goal.returns-in-21
unfolding the_table asked_in find
returns-in-21 c = arm (((field_rows c.args.byte c.args.first c.args.second c.args.one.now c.args.two.now) ++ bare_rows)) c.in-21.is c.ready_for_query.ensures refl

pub returns-in-27 : goal.returns-in-27
unfolding the_table asked_in find
returns-in-27 c = arm (((field_rows c.args.byte c.args.first c.args.second c.args.one.now c.args.two.now) ++ bare_rows)) c.in-27.is (rw (to_z-of_z w32 c.args.first c.ranges.first) at c.notification_response.ensures) refl

pub returns-in-28 : goal.returns-in-28
unfolding the_table asked_in find
returns-in-28 c = arm (((field_rows c.args.byte c.args.first c.args.second c.args.one.now c.args.two.now) ++ bare_rows)) c.in-28.is (rw (to_z-of_z w32 c.args.first c.ranges.first, to_z-of_z w32 c.args.second c.ranges.second) at c.cancel_request.ensures.as_cancel) refl

pub returns-in-29 : goal.returns-in-29
unfolding the_table asked_in find
returns-in-29 c = chosen (((field_rows c.args.byte c.args.first c.args.second c.args.one.now c.args.two.now) ++ bare_rows)) c.in-29.is c.ssl.ensures refl

pub returns-in-30 : goal.returns-in-30
unfolding the_table asked_in find
returns-in-30 c = chosen (((field_rows c.args.byte c.args.first c.args.second c.args.one.now c.args.two.now) ++ bare_rows)) c.in-30.is c.gss.ensures refl

pub returns-in-34 : goal.returns-in-34
unfolding the_table asked_in find
returns-in-34 c = arm (((field_rows c.args.byte c.args.first c.args.second c.args.one.now c.args.two.now) ++ bare_rows)) c.in-34.is c.query.ensures refl

pub returns-in-36 : goal.returns-in-36
unfolding the_table asked_in find
returns-in-36 c = arm (((field_rows c.args.byte c.args.first c.args.second c.args.one.now c.args.two.now) ++ bare_rows)) c.in-36.is c.parameter_status.ensures refl

pub returns-in-37 : goal.returns-in-37
unfolding the_table asked_in find
returns-in-37 c = arm (((field_rows c.args.byte c.args.first c.args.second c.args.one.now c.args.two.now) ++ bare_rows)) c.in-37.is (rw (to_z-of_z w32 c.args.first c.ranges.first, to_z-of_z w32 c.args.second c.ranges.second) at c.backend_key_data.ensures) refl

pub returns-in_default : goal.returns-in_default
unfolding the_table
returns-in_default c = rw (past ((field_rows c.args.byte c.args.first c.args.second c.args.one.now c.args.two.now)) bare_rows c.args.kind (search rules)) c.bare.ensures
