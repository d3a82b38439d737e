-- `encode::startup::ssl_request` meets its contract.
use mathlib.Core.Path.{refl}
use Rattle.protocol.specs.Kinds as K
use Rattle.encode.specs.Given as G
use Rattle.encode.proofs.Shapes.{as_kind}
use Rattle.encode.proofs.startup.ssl_request.Goals as goal

pub returns : goal.returns
unfolding K.ssl_request G.ssl_request
returns c = as_kind c.request.ensures K.first_packet (K.ssl_request).message refl refl
