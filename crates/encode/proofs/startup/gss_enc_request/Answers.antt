-- `encode::startup::gss_enc_request` meets its contract.
use mathlib.Core.Path.{refl}
use Rattle.protocol.specs.Kinds as K
use Rattle.encode.specs.Given as G
use Rattle.encode.proofs.Shapes.{as_kind}
use Rattle.encode.proofs.startup.gss_enc_request.Goals as goal

pub returns : goal.returns
unfolding K.gss_enc_request G.gss_enc_request
returns c = as_kind c.request.ensures K.first_packet (K.gss_enc_request).message refl refl
