-- `messages::extendedquery::Aimed::message` of Close: the message of its row.
use Rattle.std.proofs.Common.{refl}
use Rattle.protocol.specs.Kinds.{close}
use Rattle.messages.proofs.extendedquery.CloseAimed.message.Goals as goal

pub returns : goal.returns
unfolding close
returns c = refl
