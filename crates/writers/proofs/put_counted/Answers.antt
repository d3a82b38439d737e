-- `writers::put_counted` meets its contract.
use native.Mathlib.Omega.{arith}
use borrow.Author.Tests.{le-leb}
use lib.ListN.{length}
use Rattle.writers.proofs.Laws.{◌then◌}
use Rattle.writers.proofs.Puts.{put}
use Rattle.writers.proofs.put_counted.Goals as goal

pub returns : goal.returns
returns g c =
    rw (le-leb (length c.args.xs.now) 65535 (omega arith))
    (put (rw c.WIDTH.ensures at c.room.ensures) c.if-not-room.false (c.store_half-at.ensures then c.store_each.ensures))
