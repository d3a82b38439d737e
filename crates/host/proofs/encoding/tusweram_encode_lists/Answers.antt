-- `host::encoding::tusweram_encode_lists` meets its contract: what was chosen, as a number.
use mir.Syntax.{w8}
use mir.ValLaws.{to_z-of_z}
use Rattle.host.proofs.Choices.{told}
use Rattle.host.proofs.encoding.tusweram_encode_lists.Goals as goal

pub returns : goal.returns
returns c = told _ (rw (to_z-of_z w8 c.args.format c.ranges.format) at c.listed-r.ensures) c.answer_number.ensures
