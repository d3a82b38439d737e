-- `host::encoding::tusweram_encode` meets its contract: what was chosen, as a number.
use mir.Syntax.{w32}
use mir.ValLaws.{to_z-of_z}
use Rattle.host.proofs.Choices.{told}
use Rattle.host.proofs.encoding.tusweram_encode.Goals as goal

pub returns : goal.returns
returns c = told _ (rw (to_z-of_z w32 c.args.first c.ranges.first, to_z-of_z w32 c.args.second c.ranges.second) at c.plain.ensures) c.answer_number.ensures
