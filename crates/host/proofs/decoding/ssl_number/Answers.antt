-- `host::decoding::ssl_number` meets its contract: each answer has the number of its row.
use Rattle.protocol.specs.Kinds.{ssl_accept, ssl_refuse}
use Rattle.protocol.specs.Views.{view}
use Rattle.host.proofs.decoding.ssl_number.Goals as goal

pub returns-in-Accept : goal.returns-in-Accept
unfolding view ssl_accept
returns-in-Accept c = rw c.in-Accept.is

pub returns-in-Refuse : goal.returns-in-Refuse
unfolding view ssl_refuse
returns-in-Refuse c = rw c.in-Refuse.is
