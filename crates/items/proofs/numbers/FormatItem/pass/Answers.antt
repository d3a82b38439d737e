-- The `pass` of `items::Format` meets its contract.
use Rattle.std.proofs.Common.{◌∙◌}
use Rattle.items.proofs.Fixed.{formats_passed}
use Rattle.items.proofs.numbers.FormatItem.pass.Goals as goal

pub returns : goal.returns
returns c = c.pass_fixed.ensures ∙ formats_passed _ _ _ _
