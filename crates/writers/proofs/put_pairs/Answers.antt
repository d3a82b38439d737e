-- `writers::put_pairs` meets its contract.
use Rattle.writers.proofs.Laws.{◌then◌, nothing}
use Rattle.writers.proofs.Puts.{put}
use Rattle.writers.proofs.put_pairs.Goals as goal

pub returns : goal.returns
returns c =
    put c.room.ensures c.if-not-room.false
    (c.store_word-at.ensures then c.store_half-at.ensures then c.store_word-at-2.ensures then c.store_half-at-2.ensures then c.store_word-at-3.ensures
    then c.store_half.ensures then nothing)
