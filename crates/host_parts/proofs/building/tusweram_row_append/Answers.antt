-- `host_parts::building::tusweram_row_append` meets its contract.
use Rattle.host_parts.proofs.Renewed.{renews}
use Rattle.host_parts.proofs.building.tusweram_row_append.Goals as goal

pub returns : goal.returns
returns c = rw c.row_at.ensures at (renews c.append.ensures c.renewed.ensures)
