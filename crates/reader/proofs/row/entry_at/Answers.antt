-- `reader::row::entry_at` meets its contract: each case of a value.
use Rattle.std.proofs.Common.{refl, w32}
use Rattle.protocol.proofs.Basics.{back}
use Rattle.reader.specs.Row.{entry_of}
use Rattle.reader.proofs.row.entry_at.Goals as goal

pub returns-in-Ok-Some-default : goal.returns-in-Ok-Some-default
unfolding entry_of
returns-in-Ok-Some-default c =
    let arm = c.in-Ok-Some-default in
    rw (← c.value_at.ensures, arm.is, arm.field-0-0-is, back w32 c.signed_length.result c.signed_length.type_inv, c.signed_length.ensures) refl

pub returns-in-Ok-None-default : goal.returns-in-Ok-None-default
unfolding entry_of
returns-in-Ok-None-default c =
    let arm = c.in-Ok-None-default in
    rw (← c.value_at.ensures, arm.is, arm.field-0-0-is) refl

pub returns-in-Err : goal.returns-in-Err
unfolding entry_of
returns-in-Err c = rw (← c.in-Err.ensures) refl
