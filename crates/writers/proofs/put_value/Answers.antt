-- `writers::put_value` meets its contract.
use Rattle.writers.proofs.Laws.{◌then◌}
use Rattle.writers.proofs.Puts.{put}
use Rattle.writers.proofs.put_value.Goals as goal

pub returns : goal.returns
returns c = put c.room.ensures c.if-not-room.false (c.store_word-at.ensures then c.store_bytes.ensures)
