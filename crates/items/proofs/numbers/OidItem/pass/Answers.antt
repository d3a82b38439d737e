-- The `pass` of `items::Oid` meets its contract.
use Rattle.std.proofs.Common.{◌∙◌}
use Rattle.items.proofs.Fixed.{oids_passed}
use Rattle.items.proofs.numbers.OidItem.pass.Goals as goal

pub returns : goal.returns
returns c = c.pass_fixed.ensures ∙ oids_passed _ _ _ _
