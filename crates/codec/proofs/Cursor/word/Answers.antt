-- `codec::Cursor::word` meets its contract.
use Rattle.std.proofs.Common.{◌+◌, ◌<◌, ◌≤◌, length, inl, inr, ◌∙◌, arith}
use Rattle.codec.proofs.Numbers.{word_from, number_got, number_cut}
use Rattle.codec.proofs.Cursor.word.Goals as goal

pub returns-in_err-get : goal.returns-in_err-get
returns-in_err-get c = let a = c.args in
    let short : length a.frame.now < a.self.at = elim c.in_err-get.ensures.lookup.0 [ inl h ↦ h | inr h ↦ omega (arith, h) ] in
    rw c.from_residual.ensures (number_cut a.frame.now a.self.at 4 (omega (arith, short)))

pub returns-in_default : goal.returns-in_default
returns-in_default c = let k = c.in_ok-get.ensures.lookup.0 in
    number_cut c.args.frame.now c.args.self.at 4 (omega (arith, k.3, c.in_default.len_below))

pub returns : goal.returns
returns c = let k = c.in_ok-get.ensures.lookup.0 in
    let f = c.args.frame.now in
    let p = c.args.self.at in
    let whole : p + 4 ≤ length f = omega (arith, k.3, c.in-len4-up.len_at_least) in
    number_got f p 4 _ whole (c.from_be_bytes.ensures ∙ word_from f _ p k.2 whole)
