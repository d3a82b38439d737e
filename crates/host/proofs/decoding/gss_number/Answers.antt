-- `host::decoding::gss_number` meets its contract: each answer has the number of its row.
use Rattle.protocol.specs.Kinds.{gss_accept, gss_refuse}
use Rattle.protocol.specs.Views.{view}
use Rattle.host.proofs.decoding.gss_number.Goals as goal

pub returns-in-Accept : goal.returns-in-Accept
unfolding view gss_accept
returns-in-Accept c = rw c.in-Accept.is

pub returns-in-Refuse : goal.returns-in-Refuse
unfolding view gss_refuse
returns-in-Refuse c = rw c.in-Refuse.is
