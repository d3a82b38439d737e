-- `encode::response::error_response` meets its contract.
use Rattle.protocol.specs.Kinds as K
use Rattle.encode.specs.Given as G
use Rattle.encode.proofs.Shapes.{as_kind_given}
use Rattle.encode.proofs.response.error_response.Goals as goal

pub returns : goal.returns
unfolding K.error_response G.error_response
returns c = as_kind_given c.report.ensures (K.error_response).message
