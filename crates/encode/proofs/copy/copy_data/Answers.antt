-- `encode::copy::copy_data` meets its contract.
use Prim.Native.Nat.{ℕ}
use mathlib.Core.List.{List}
use Rattle.protocol.specs.Encoded.{Encoded}
use Rattle.protocol.specs.Encode.{Encodes}
use mathlib.Core.Path.{refl}
use native.Mathlib.Omega.{arith}
use Rattle.std.proofs.lemmas.Result.{err_from_is_err_and}
use Rattle.protocol.specs.Each.{able_each, bytes_of_each}
use Rattle.protocol.specs.Fields.{able, bytes, atom_able, atom_bytes}
use Rattle.protocol.specs.Kinds as K
use Rattle.protocol.specs.WellFormed.{body_bytes}
use Rattle.writers.proofs.Puts.{◌and◌, none}
use Rattle.encode.specs.Given as G
use Rattle.encode.proofs.Answered.{denied, wrote}
use Rattle.encode.proofs.Measures as M
use Rattle.encode.proofs.Shapes.{as_kind}
use Rattle.encode.proofs.copy.copy_data.Goals as goal

-- of one mode's frames and of the other's
both : (bytes : List ℕ) {out left : List ℕ} {r : Encoded} → Encodes K.frontend K.copy_data (G.copy_data bytes) out r left
    → (record { from_frontend : Encodes K.frontend K.copy_data (G.copy_data bytes) out r left; from_backend : Encodes K.backend K.copy_data (G.copy_data bytes) out r left })
unfolding K.frontend K.backend K.copy_data G.copy_data able_each able atom_able
both bytes e = record { from_frontend = e; from_backend = as_kind e K.backend (K.copy_data).message refl refl }

pub returns-in_err-n : goal.returns-in_err-n
returns-in_err-n c = let a = c.args in
    both a.data.now (denied (M.copy_data a.data.now) (omega arith) refl (λ _. omega (arith, c.plus-size.ensures))
    (err_from_is_err_and c.from_residual.result c.from_residual.ensures.1) c.in_err-n.ensures)

pub returns : goal.returns
unfolding K.copy_data G.copy_data body_bytes bytes_of_each bytes atom_bytes
returns c = let a = c.args in
    both a.data.now (wrote (M.copy_data a.data.now) (omega arith) refl (λ _. omega (arith, c.plus-size.ensures)) c.in_ok-n.ensures c.put_head-at.ensures
    (λ _. c.put_bytes.ensures.fits refl and none)
    (omega arith))
