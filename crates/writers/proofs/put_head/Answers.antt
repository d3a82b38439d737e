-- `writers::put_head` meets its contract.
use Prim.Native.Nat.{◌+◌, ◌-◌}
use mathlib.Core.Path.{◌≡◌}
use native.Mathlib.Omega.{arith}
use borrow.Author.Tests.{le-leb}
use Rattle.protocol.specs.Kinds.{large_frame}
use Rattle.protocol.specs.WellFormed.{header}
use Rattle.writers.proofs.Laws.{◌then◌}
use Rattle.writers.proofs.Puts.{put}
use Rattle.writers.proofs.put_head.Goals as goal

pub returns : goal.returns
unfolding header
returns c =
    let n = c.args.n in
    let e : 4 + (n - 5) ≡ n - 1 = omega arith in
    rw (le-leb 5 n (omega arith), le-leb n large_frame (omega arith), e)
    (put c.room.ensures c.if-not-room.false (c.store_block-at.ensures then c.store_word.ensures))
