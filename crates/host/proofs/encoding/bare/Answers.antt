-- `host::encoding::bare` meets its contract: each arm is a row of the table.
use mathlib.Core.Path.{refl}
use Rattle.protocol.specs.Kinds.{find, the_table}
use Rattle.host.specs.Asked.{asked_in, bare_rows}
use Rattle.host.proofs.Choices.{arm, unknown}
use borrow.Author.Rules.{rules}
use Rattle.host.proofs.encoding.bare.Goals as goal

pub returns-in-6 : goal.returns-in-6
unfolding the_table asked_in find
returns-in-6 c = arm bare_rows c.in-6.is c.flush.ensures refl

pub returns-in-7 : goal.returns-in-7
unfolding the_table asked_in find
returns-in-7 c = arm bare_rows c.in-7.is c.sync.ensures refl

pub returns-in-8 : goal.returns-in-8
unfolding the_table asked_in find
returns-in-8 c = arm bare_rows c.in-8.is c.copy_done.ensures.from_frontend refl

pub returns-in-11 : goal.returns-in-11
unfolding the_table asked_in find
returns-in-11 c = arm bare_rows c.in-11.is c.parse_complete.ensures refl

pub returns-in-12 : goal.returns-in-12
unfolding the_table asked_in find
returns-in-12 c = arm bare_rows c.in-12.is c.bind_complete.ensures refl

pub returns-in-13 : goal.returns-in-13
unfolding the_table asked_in find
returns-in-13 c = arm bare_rows c.in-13.is c.close_complete.ensures refl

pub returns-in-14 : goal.returns-in-14
unfolding the_table asked_in find
returns-in-14 c = arm bare_rows c.in-14.is c.portal_suspended.ensures refl

pub returns-in-15 : goal.returns-in-15
unfolding the_table asked_in find
returns-in-15 c = arm bare_rows c.in-15.is c.no_data.ensures refl

pub returns-in-16 : goal.returns-in-16
unfolding the_table asked_in find
returns-in-16 c = arm bare_rows c.in-16.is c.empty_query_response.ensures refl

pub returns-in-32 : goal.returns-in-32
unfolding the_table asked_in find
returns-in-32 c = arm bare_rows c.in-32.is c.ssl_request.ensures refl

pub returns-in-33 : goal.returns-in-33
unfolding the_table asked_in find
returns-in-33 c = arm bare_rows c.in-33.is c.gss_enc_request.ensures refl

pub returns-in-35 : goal.returns-in-35
unfolding the_table asked_in find
returns-in-35 c = arm bare_rows c.in-35.is c.terminate.ensures refl

pub returns-in_default : goal.returns-in_default
unfolding the_table
returns-in_default c = rw c.at.ensures (unknown bare_rows _ (search rules))
