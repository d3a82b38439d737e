-- `host::encoding::tusweram_encode_row_description` meets its contract: the encoder's answer, as a number.
use Rattle.host.specs.Asked.{asked_row}
use Rattle.host.proofs.Choices.{asks, told}
use Rattle.host.proofs.encoding.tusweram_encode_row_description.Goals as goal

pub returns : goal.returns
returns c = told (asked_row c.args.fields.now c.args.run.now) (asks c.row_description.ensures) c.answer_number.ensures
