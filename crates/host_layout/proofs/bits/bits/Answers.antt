-- `host_layout::bits::bits` meets its contract: the bits of `pen`, made wider.
use mir.Syntax.{w32}
use Rattle.writers.proofs.Signs.{bits_of_lem}
use Rattle.host_layout.proofs.bits.bits.Goals as goal

pub returns : goal.returns
returns c = bits_of_lem w32 4 c.args.x c.ranges.x c.bits32.ensures
