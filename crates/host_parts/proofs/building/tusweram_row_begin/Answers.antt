-- `host_parts::building::tusweram_row_begin` meets its contract.
use Rattle.host_parts.proofs.Renewed.{renews}
use Rattle.host_parts.proofs.building.tusweram_row_begin.Goals as goal

pub returns : goal.returns
returns c = renews c.begin.ensures c.renewed.ensures
