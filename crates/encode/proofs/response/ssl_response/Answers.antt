-- `encode::response::ssl_response` meets its contract.
use mathlib.Core.Path.{refl}
use Rattle.protocol.specs.Kinds as K
use Rattle.encode.specs.Given as G
use Rattle.encode.proofs.Shapes.{as_kind}
use Rattle.encode.proofs.response.ssl_response.Goals as goal

pub returns-in-Accept : goal.returns-in-Accept
unfolding K.tls_answer K.ssl_accept G.ssl_response
returns-in-Accept c = rw c.in-Accept.is (as_kind c.lone.ensures K.tls_answer (K.ssl_accept).message refl refl)

pub returns-in-Refuse : goal.returns-in-Refuse
unfolding K.tls_answer K.ssl_refuse G.ssl_response
returns-in-Refuse c = rw c.in-Refuse.is (as_kind c.lone-in-Refuse.ensures K.tls_answer (K.ssl_refuse).message refl refl)
