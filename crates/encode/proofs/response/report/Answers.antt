-- `encode::response::report` meets its contract.
use native.Mathlib.Omega.{arith}
use Rattle.std.proofs.lemmas.Result.{err_from_is_err_and}
use Rattle.protocol.specs.Each.{bytes_of_each}
use Rattle.protocol.specs.Fields.{bytes}
use Rattle.protocol.specs.WellFormed.{body_bytes}
use Rattle.protocol.proofs.Basics.{and_left}
use Rattle.writers.proofs.Puts.{◌and◌, none}
use Rattle.encode.specs.Given as G
use Rattle.encode.proofs.Answered.{denied, granted, wrote_given}
use Rattle.encode.proofs.Measures as M
use Rattle.encode.proofs.response.report.Goals as goal

pub returns-in_err-n : goal.returns-in_err-n
returns-in_err-n c = let a = c.args in
    denied (M.reported a.type_byte a.codes.now a.lengths.now a.joined.now (λ i. (c.type_inv.codes i).fits)) (omega arith) (cc) (λ _. omega (arith, c.plus4-size.ensures))
    (err_from_is_err_and c.from_residual.result c.from_residual.ensures.1) c.in_err-n.ensures

pub returns : goal.returns
unfolding body_bytes bytes_of_each bytes
returns c = let a = c.args in
    wrote_given (G.reported a.type_byte) (λ fs. (fs, tt)) (M.reported a.type_byte a.codes.now a.lengths.now a.joined.now (λ i. (c.type_inv.codes i).fits)) (omega arith) (cc) (λ _. omega (arith, c.plus4-size.ensures)) c.in_ok-n.ensures c.put_head-at.ensures
    (λ fs is _. (λ _. c.put_errors.ensures.field fs is) and none)
    (omega arith)

pub put_errors-requires : goal.put_errors-requires
put_errors-requires c = let a = c.args in
    let g = granted (M.reported a.type_byte a.codes.now a.lengths.now a.joined.now (λ i. (c.type_inv.codes i).fits)) (omega arith) (cc) (λ _. omega (arith, c.plus4-size.ensures)) c.in_ok-n.ensures in
    (omega (arith, g.whole, g.fits, c.put_head-at.ensures.near), and_left _ _ (and_left _ _ g.able))
