-- `codec::Cursor::pass_value` meets its contract: a whole value by its length word, else what the value's own step answers.
use Rattle.std.proofs.Common.{◌+◌, ◌≤◌, refl, length, arith}
use Rattle.std.proofs.lemmas.Result.{err_from_is_err_and}
use Rattle.protocol.specs.Reading.{pass_items}
use Rattle.codec.proofs.Numbers.{number_got}
use Rattle.codec.proofs.Values.{value_got, value_null}
use Rattle.codec.proofs.Cursor.pass_value.Goals as goal

pub returns-then-len-ends : goal.returns-then-len-ends
unfolding pass_items
returns-then-len-ends c = let ends = c.requires.0 (omega (arith, c.if-at-ends.true)) in
    let whole : c.args.self.at + 4 + c.word_at-word.result ≤ length c.args.frame.now = omega (arith, ends, c.if-len-ends.true) in
    rw (← value_got _ _ _ _ (number_got c.args.frame.now c.args.self.at 4 _ (omega (arith, whole)) c.word_at-word.ensures) (omega (arith, c.requires.1, c.if-len-ends.true)) whole) refl

pub returns-then-word : goal.returns-then-word
unfolding pass_items
returns-then-word c = let ends = c.requires.0 (omega (arith, c.if-at-ends.true)) in
    rw (← value_null _ _ _ _ (number_got c.args.frame.now c.args.self.at 4 _ (omega (arith, ends, c.if-at-ends.true)) c.word_at-word.ensures) c.if-word.true) refl

pub returns-in_err-next : goal.returns-in_err-next
unfolding pass_items
returns-in_err-next c =
    let p = err_from_is_err_and c.from_residual.result c.from_residual.ensures.1 in
    rw (p.1, p.2, ← c.in_err-next.ensures) refl

pub returns : goal.returns
unfolding pass_items
returns c = rw (← c.in_ok-next.ensures) refl
