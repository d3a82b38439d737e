-- `messages::copy::CopyResponse::message` of CopyBothResponse: the message of its row.
use Rattle.std.proofs.Common.{refl}
use mir.Syntax.{w8}
use Rattle.protocol.specs.Kinds.{copy_both_response}
use Rattle.protocol.proofs.Basics.{back}
use Rattle.messages.proofs.copy.CopyBothResponseCopyResponse.message.Goals as goal

pub returns : goal.returns
unfolding copy_both_response
returns c = rw (back w8 _ c.ranges.format.sfits) refl
