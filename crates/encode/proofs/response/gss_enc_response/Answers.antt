-- `encode::response::gss_enc_response` meets its contract.
use mathlib.Core.Path.{refl}
use Rattle.protocol.specs.Each.{able_each}
use Rattle.protocol.specs.Kinds as K
use Rattle.encode.specs.Given as G
use Rattle.encode.proofs.Shapes.{as_kind}
use Rattle.encode.proofs.response.gss_enc_response.Goals as goal

pub returns-in-Accept : goal.returns-in-Accept
unfolding K.tls_answer K.gss_answer K.gss_accept G.gss_enc_response able_each
returns-in-Accept c = rw c.in-Accept.is (as_kind c.lone.ensures K.gss_answer (K.gss_accept).message refl refl)

pub returns-in-Refuse : goal.returns-in-Refuse
unfolding K.tls_answer K.gss_answer K.gss_refuse G.gss_enc_response able_each
returns-in-Refuse c = rw c.in-Refuse.is (as_kind c.lone-in-Refuse.ensures K.gss_answer (K.gss_refuse).message refl refl)
