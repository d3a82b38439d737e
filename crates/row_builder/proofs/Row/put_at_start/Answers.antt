-- `row_builder::Row::put_at_start` meets its contract: the head of a frame, and the count behind it.
use mathlib.Core.Path.{refl}
use native.Mathlib.Omega.{arith}
use Rattle.protocol.specs.Kinds.{data_row}
use Rattle.writers.proofs.Laws.{◌then◌}
use Rattle.writers.proofs.Puts.{headed, same_size}
use Rattle.row_builder.specs.Building.{head_of}
use Rattle.row_builder.proofs.Row.put_at_start.Goals as goal

pub returns : goal.returns
unfolding head_of data_row
returns c = let head = headed c.put_head-at.ensures (omega (arith, c.requires.0)) c.requires.1 c.requires.2 in
    let count = c.put_half.ensures.fits refl (omega (arith, c.requires, head.place, same_size head)) in
    (head then count).bytes
