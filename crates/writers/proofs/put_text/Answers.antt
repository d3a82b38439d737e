-- `writers::put_text` meets its contract.
use Rattle.writers.proofs.Laws.{◌then◌}
use Rattle.writers.proofs.Puts.{put}
use Rattle.writers.proofs.put_text.Goals as goal

pub returns : goal.returns
returns c = put c.room.ensures c.if-not-room.false (c.store_bytes-at.ensures then c.store_block.ensures)
