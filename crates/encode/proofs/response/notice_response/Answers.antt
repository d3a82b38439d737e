-- `encode::response::notice_response` meets its contract.
use Rattle.protocol.specs.Kinds as K
use Rattle.encode.specs.Given as G
use Rattle.encode.proofs.Shapes.{as_kind_given}
use Rattle.encode.proofs.response.notice_response.Goals as goal

pub returns : goal.returns
unfolding K.notice_response G.notice_response
returns c = as_kind_given c.report.ensures (K.notice_response).message
