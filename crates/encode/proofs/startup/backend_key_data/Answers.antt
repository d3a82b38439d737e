-- `encode::startup::backend_key_data` meets its contract.
use mathlib.Core.Path.{refl}
use native.Mathlib.Omega.{arith}
use mir.Syntax.{w32}
use Rattle.std.proofs.lemmas.Result.{err_from_is_err_and}
use Rattle.protocol.specs.Each.{bytes_of_each}
use Rattle.protocol.specs.Fields.{bytes, atom_bytes}
use Rattle.protocol.specs.Kinds as K
use Rattle.protocol.specs.WellFormed.{body_bytes}
use Rattle.writers.proofs.Puts.{◌and◌, none}
use Rattle.writers.proofs.Signs.{bits_of_lem}
use Rattle.encode.specs.Given as G
use Rattle.encode.proofs.Answered.{denied, wrote}
use Rattle.encode.proofs.Measures as M
use Rattle.encode.proofs.startup.backend_key_data.Goals as goal

pub returns-in_err-n : goal.returns-in_err-n
returns-in_err-n c = let a = c.args in
    denied (M.backend_key_data a.pid a.secret_key) (omega arith) refl (λ _. omega arith)
    (err_from_is_err_and c.from_residual.result c.from_residual.ensures.1) c.in_err-n.ensures

pub returns : goal.returns
unfolding K.backend_key_data G.backend_key_data body_bytes bytes_of_each bytes atom_bytes
returns c = let a = c.args in
    let pid = bits_of_lem w32 4 a.pid c.ranges.pid c.bits32.ensures in
    let key = bits_of_lem w32 4 a.secret_key c.ranges.secret_key c.bits32-2.ensures in
    wrote (M.backend_key_data a.pid a.secret_key) (omega arith) refl (λ _. omega arith) c.in_ok-n.ensures c.put_head-at.ensures
    (λ _. rw pid at (c.put_word-at.ensures.fits refl) and rw key at (c.put_word.ensures.fits refl) and none)
    (omega arith)
