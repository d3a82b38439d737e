-- `encode::bare` meets its contract.
use mathlib.Core.Path.{refl}
use native.Mathlib.Omega.{arith}
use Rattle.std.proofs.lemmas.Result.{err_from_is_err_and}
use Rattle.protocol.specs.Each.{bytes_of_each}
use Rattle.protocol.specs.WellFormed.{body_bytes}
use Rattle.writers.proofs.Puts.{none}
use Rattle.encode.proofs.Answered.{denied, wrote}
use Rattle.encode.proofs.Measures as M
use Rattle.encode.proofs.bare.Goals as goal

pub returns-in_err-n : goal.returns-in_err-n
returns-in_err-n c = let a = c.args in
    denied (M.fieldless a.type_byte) (omega arith) refl (λ _. omega arith)
    (err_from_is_err_and c.from_residual.result c.from_residual.ensures.1) c.in_err-n.ensures

pub returns : goal.returns
unfolding body_bytes bytes_of_each
returns c = let a = c.args in
    wrote (M.fieldless a.type_byte) (omega arith) refl (λ _. omega arith) c.in_ok-n.ensures c.put_head.ensures
    (λ _. none)
    (omega arith)
