-- `messages::extendedquery::Aimed::message` of Describe: the message of its row.
use Rattle.std.proofs.Common.{refl}
use Rattle.protocol.specs.Kinds.{describe}
use Rattle.messages.proofs.extendedquery.DescribeAimed.message.Goals as goal

pub returns : goal.returns
unfolding describe
returns c = refl
