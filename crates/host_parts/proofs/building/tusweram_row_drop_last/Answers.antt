-- `host_parts::building::tusweram_row_drop_last` meets its contract.
use Rattle.host_parts.proofs.Renewed.{renews}
use Rattle.host_parts.proofs.building.tusweram_row_drop_last.Goals as goal

pub returns : goal.returns
returns c = rw c.row_at.ensures at (renews c.drop_last.ensures c.renewed.ensures)
