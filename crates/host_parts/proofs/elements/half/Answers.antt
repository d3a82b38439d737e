-- `host_parts::elements::half` meets its contract: a narrow number's bits are those of the wider one.
use mir.Syntax.{w16}
use Rattle.host_layout.proofs.Signs.{widens, wide_bits_of}
use Rattle.host_parts.proofs.elements.half.Goals as goal

pub overflow_cast-x : goal.overflow_cast-x
overflow_cast-x c = widens w16 c.args.x tt c.ranges.x

pub returns : goal.returns
returns c = wide_bits_of w16 c.args.x tt c.ranges.x c.bits.ensures
