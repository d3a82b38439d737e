-- `row_builder::Row::headed` meets its contract: step by step, as a DataRow is decoded.
use mathlib.Core.Path.{sym}
use Rattle.protocol.specs.Kinds.{data_row}
use Rattle.protocol.proofs.Numbers.{whole, not_whole}
use Rattle.row_builder.proofs.Heads.{count_decides, no_byte, no_frame, other_byte, other_end}
use Rattle.row_builder.proofs.Row.headed.Goals as goal

pub returns-in_default : goal.returns-in_default
returns-in_default c = no_byte _ _ (not_whole 1 _ 0 _ _ (sym c.in_default.ensures))

pub returns-then-type_byte-ne-MESSAGE_TYPE_BYTE_DATA_ROW : goal.returns-then-type_byte-ne-MESSAGE_TYPE_BYTE_DATA_ROW
unfolding data_row
returns-then-type_byte-ne-MESSAGE_TYPE_BYTE_DATA_ROW c =
    other_byte _ _ (whole 1 _ _ _ _ (sym c.in-Some.ensures)).is c.if-type_byte-ne-MESSAGE_TYPE_BYTE_DATA_ROW.true

pub returns-in_default-typed : goal.returns-in_default-typed
unfolding data_row
returns-in_default-typed c = no_frame _ _ _ c.in_default-typed.ensures

pub returns-then-frame-self : goal.returns-then-frame-self
unfolding data_row
returns-then-frame-self c = other_end _ _ c.in-Ok.ensures c.if-frame-self.true

pub returns-in_default-count : goal.returns-in_default-count
unfolding data_row
returns-in_default-count c =
    count_decides _ _ c.in-Ok.ensures (whole 1 _ _ _ _ (sym c.in-Some.ensures)).is c.if-type_byte-ne-MESSAGE_TYPE_BYTE_DATA_ROW.false c.if-frame-self.false c.in_default-count.ensures

pub returns : goal.returns
unfolding data_row
returns c =
    count_decides _ _ c.in-Ok.ensures (whole 1 _ _ _ _ (sym c.in-Some.ensures)).is c.if-type_byte-ne-MESSAGE_TYPE_BYTE_DATA_ROW.false c.if-frame-self.false c.in-Ok-count.ensures
