-- `codec::word_at` meets its contract.
use Rattle.std.proofs.Common.{arith}
use Rattle.codec.proofs.Numbers.{word_at}
use Rattle.codec.proofs.word_at.Goals as goal

pub returns : goal.returns
returns c = omega (arith, c.from_be_bytes.ensures, word_at c.args.s.now c.args.at c.requires)
