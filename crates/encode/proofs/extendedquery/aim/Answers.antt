-- `encode::extendedquery::aim` meets its contract.
use mathlib.Core.Path.{refl}
use native.Mathlib.Omega.{arith}
use Rattle.std.proofs.lemmas.Result.{err_from_is_err_and}
use Rattle.protocol.specs.Each.{bytes_of_each}
use Rattle.protocol.specs.Fields.{bytes, atom_bytes}
use Rattle.protocol.specs.WellFormed.{body_bytes}
use Rattle.writers.proofs.Puts.{◌and◌, none}
use Rattle.encode.proofs.Answered.{denied, wrote}
use Rattle.encode.proofs.Measures as M
use Rattle.encode.proofs.extendedquery.aim.Goals as goal

pub returns-in_err-n : goal.returns-in_err-n
returns-in_err-n c = let a = c.args in
    denied (M.aimed a.type_byte a.target_type a.name.now) (omega arith) (cc) (λ _. omega (arith, c.plus-size.ensures))
    (err_from_is_err_and c.from_residual.result c.from_residual.ensures.1) c.in_err-n.ensures

pub returns : goal.returns
unfolding body_bytes bytes_of_each bytes atom_bytes
returns c = let a = c.args in
    wrote (M.aimed a.type_byte a.target_type a.name.now) (omega arith) (cc) (λ _. omega (arith, c.plus-size.ensures)) c.in_ok-n.ensures c.put_head-at.ensures
    (λ _. c.put_byte-at.ensures.fits refl and c.put_text.ensures.fits refl and none)
    (omega arith)
