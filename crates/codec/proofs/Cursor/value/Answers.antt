-- `codec::Cursor::value` meets its contract: by what the length word is.
use Rattle.std.proofs.Common.{ℕ, ◌≤◌, ◌<◌, length, get_or, sym, arith}
use Rattle.protocol.proofs.Numbers.{whole}
use Rattle.codec.proofs.Numbers.{word_small}
use Rattle.codec.proofs.Values.{value_short, value_null, value_below, value_cut, value_got}
use Rattle.codec.proofs.Cursor.value.Goals as goal

pub returns-in_default : goal.returns-in_default
returns-in_default c = rw c.at.ensures (value_short _ _ c.in_default.ensures)

pub returns-then-len : goal.returns-then-len
returns-then-len c = value_null _ _ _ _ c.in-Some.ensures c.if-len.true

pub returns-then-len-gt-LONGEST : goal.returns-then-len-gt-LONGEST
returns-then-len-gt-LONGEST c =
    let w = whole 4 _ _ _ _ (sym c.in-Some.ensures) in
    let byte : (k : ℕ) → get_or c.args.frame.now k 0 < 256 = λ k. omega (arith, c.type_inv.frame k) in
    let small = word_small c.args.frame.now c.args.self.at byte (omega (arith, w.fits, w.next)) in
    rw c.at-then-len-gt-LONGEST.ensures (value_below _ _ _ _ c.in-Some.ensures c.if-len-gt-LONGEST.true (omega (arith, small, w.is)))

pub overflow_sub-frame : goal.overflow_sub-frame
overflow_sub-frame c = (whole 4 _ _ _ _ (sym c.in-Some.ensures)).fits

pub returns-then-frame-start : goal.returns-then-frame-start
returns-then-frame-start c =
    let fits : c.in-Some.c.at ≤ length c.args.frame.now = (whole 4 _ _ _ _ (sym c.in-Some.ensures)).fits in
    rw c.at-then-frame-start.ensures (value_cut _ _ _ _ c.in-Some.ensures c.if-len-gt-LONGEST.false (omega (arith, fits)))

pub returns : goal.returns
returns c =
    let fits : c.in-Some.c.at ≤ length c.args.frame.now = (whole 4 _ _ _ _ (sym c.in-Some.ensures)).fits in
    value_got _ _ _ _ c.in-Some.ensures c.if-len-gt-LONGEST.false (omega (arith, fits))
