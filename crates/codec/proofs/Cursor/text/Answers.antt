-- `codec::Cursor::text` meets its contract.
use Rattle.codec.proofs.Texts.{not_before, at_zero, at_end_lem}
use Rattle.codec.proofs.Cursor.text.Goals as goal

pub overflow_sub-len : goal.overflow_sub-len
overflow_sub-len c = let a = c.args in
    not_before a.frame.now a.self.at _ c.zero_from-zero.ensures

pub returns-then-zero-frame : goal.returns-then-zero-frame
returns-then-zero-frame c = let a = c.args in
    at_zero a.frame.now a.self.at _ c.zero_from-zero.ensures c.if-zero-frame.true

pub returns-else-zero-frame : goal.returns-else-zero-frame
returns-else-zero-frame c = let a = c.args in
    at_end_lem a.frame.now a.self.at _ c.zero_from-zero.ensures c.if-zero-frame.false
