-- `codec::Cursor::byte` meets its contract.
use Rattle.std.proofs.Common.{sym, ◌∙◌, arith}
use Rattle.codec.proofs.Numbers.{byte_at, number_got, number_cut}
use Rattle.codec.proofs.Cursor.byte.Goals as goal

pub returns-in_err-byte : goal.returns-in_err-byte
returns-in_err-byte c = let k = c.in_err-byte.ensures.lookup in
    rw c.from_residual.ensures (number_cut c.args.frame.now c.args.self.at 1 (omega (arith, k.3)))

pub returns : goal.returns
returns c = let k = c.in_ok-byte.ensures.lookup in
    let a = c.args in
    number_got a.frame.now a.self.at 1 _ (omega (arith, k.3.0)) (k.3.1 0 ∙ sym (byte_at a.frame.now a.self.at (omega (arith, k.3.0))))
