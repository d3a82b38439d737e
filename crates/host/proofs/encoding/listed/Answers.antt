-- `host::encoding::listed` meets its contract: each arm is a row of the table.
use mathlib.Core.Path.{refl}
use mir.Syntax.{w8}
use mir.ValLaws.{to_z-of_z}
use Rattle.protocol.specs.Kinds.{find, the_table}
use Rattle.host.specs.Asked.{asked_in, list_rows}
use Rattle.host.proofs.Choices.{arm, unknown}
use borrow.Author.Rules.{rules}
use Rattle.host.proofs.encoding.listed.Goals as goal

pub returns-in-1 : goal.returns-in-1
unfolding the_table asked_in find
returns-in-1 c = arm ((list_rows c.args.format c.args.one.now c.args.two.now c.args.joined.now c.args.words.now c.args.lengths.now c.args.formats.now c.args.results.now)) c.in-1.is c.parse.ensures refl

pub returns-in-2 : goal.returns-in-2
unfolding the_table asked_in find
returns-in-2 c = arm ((list_rows c.args.format c.args.one.now c.args.two.now c.args.joined.now c.args.words.now c.args.lengths.now c.args.formats.now c.args.results.now)) c.in-2.is c.bind.ensures refl

pub returns-in-18 : goal.returns-in-18
unfolding the_table asked_in find
returns-in-18 c = arm ((list_rows c.args.format c.args.one.now c.args.two.now c.args.joined.now c.args.words.now c.args.lengths.now c.args.formats.now c.args.results.now)) c.in-18.is c.parameter_description.ensures refl

pub returns-in-19 : goal.returns-in-19
unfolding the_table asked_in find
returns-in-19 c = arm ((list_rows c.args.format c.args.one.now c.args.two.now c.args.joined.now c.args.words.now c.args.lengths.now c.args.formats.now c.args.results.now)) c.in-19.is c.data_row.ensures refl

pub returns-in-22 : goal.returns-in-22
unfolding the_table asked_in find
returns-in-22 c = arm ((list_rows c.args.format c.args.one.now c.args.two.now c.args.joined.now c.args.words.now c.args.lengths.now c.args.formats.now c.args.results.now)) c.in-22.is c.error_response.ensures refl

pub returns-in-23 : goal.returns-in-23
unfolding the_table asked_in find
returns-in-23 c = arm ((list_rows c.args.format c.args.one.now c.args.two.now c.args.joined.now c.args.words.now c.args.lengths.now c.args.formats.now c.args.results.now)) c.in-23.is c.notice_response.ensures refl

pub returns-in-24 : goal.returns-in-24
unfolding the_table asked_in find
returns-in-24 c = arm ((list_rows c.args.format c.args.one.now c.args.two.now c.args.joined.now c.args.words.now c.args.lengths.now c.args.formats.now c.args.results.now)) c.in-24.is (rw (to_z-of_z w8 c.args.format c.ranges.format) at c.copy_in_response.ensures) refl

pub returns-in-25 : goal.returns-in-25
unfolding the_table asked_in find
returns-in-25 c = arm ((list_rows c.args.format c.args.one.now c.args.two.now c.args.joined.now c.args.words.now c.args.lengths.now c.args.formats.now c.args.results.now)) c.in-25.is (rw (to_z-of_z w8 c.args.format c.ranges.format) at c.copy_out_response.ensures) refl

pub returns-in-26 : goal.returns-in-26
unfolding the_table asked_in find
returns-in-26 c = arm ((list_rows c.args.format c.args.one.now c.args.two.now c.args.joined.now c.args.words.now c.args.lengths.now c.args.formats.now c.args.results.now)) c.in-26.is (rw (to_z-of_z w8 c.args.format c.ranges.format) at c.copy_both_response.ensures) refl

pub returns-in-31 : goal.returns-in-31
unfolding the_table asked_in find
returns-in-31 c = arm ((list_rows c.args.format c.args.one.now c.args.two.now c.args.joined.now c.args.words.now c.args.lengths.now c.args.formats.now c.args.results.now)) c.in-31.is c.startup.ensures refl

pub returns-in_default : goal.returns-in_default
unfolding the_table
returns-in_default c = rw c.at.ensures (unknown ((list_rows c.args.format c.args.one.now c.args.two.now c.args.joined.now c.args.words.now c.args.lengths.now c.args.formats.now c.args.results.now)) _ (search rules))
