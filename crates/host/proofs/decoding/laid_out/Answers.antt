-- `host::decoding::laid_out` meets its contract: case by case of the answer.
use Rattle.host_layout.specs.LaidOut.{laid_out}
use Rattle.host_layout.proofs.Unread.{none_laid_out}
use Rattle.host.proofs.decoding.laid_out.Goals as goal

pub returns-in-Err : goal.returns-in-Err
returns-in-Err c = rw c.in-Err.is (none_laid_out _ c.unread.ensures)

pub returns-in-Ok : goal.returns-in-Ok
unfolding laid_out
returns-in-Ok c = rw c.in-Ok.is c.record.ensures
