-- `host::encoding::gss` meets its contract: each arm is a row of the table.
use mathlib.Core.Path.{refl}
use Rattle.protocol.specs.Kinds.{find, the_table}
use Rattle.host.specs.Asked.{asked_in, gss_rows}
use Rattle.host.proofs.Choices.{arm, unknown}
use borrow.Author.Rules.{rules}
use Rattle.host.proofs.encoding.gss.Goals as goal

pub returns-in-0 : goal.returns-in-0
unfolding the_table asked_in find
returns-in-0 c = arm gss_rows c.in-0.is c.gss_enc_response.ensures refl

pub returns-in-1 : goal.returns-in-1
unfolding the_table asked_in find
returns-in-1 c = arm gss_rows c.in-1.is c.gss_enc_response-in-1.ensures refl

pub returns-in_default : goal.returns-in_default
unfolding the_table
returns-in_default c = rw c.at.ensures (unknown gss_rows _ (search rules))
