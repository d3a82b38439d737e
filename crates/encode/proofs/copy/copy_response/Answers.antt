-- `encode::copy::copy_response` meets its contract.
use Prim.Native.Nat.{◌<◌}
use mathlib.Core.Path.{refl}
use native.Mathlib.Omega.{arith}
use borrow.Author.Tests.{leb-true, le-leb}
use lib.ListN.{length}
use mir.Syntax.{w8}
use Rattle.std.proofs.lemmas.Result.{err_from_is_err_and}
use Rattle.protocol.specs.Each.{bytes_of_each}
use Rattle.protocol.specs.Fields.{most, unsigned_count, bytes, atom_bytes}
use Rattle.protocol.specs.WellFormed.{body_bytes}
use Rattle.writers.proofs.Puts.{◌and◌, none}
use Rattle.writers.proofs.Signs.{bits_of_lem, byte_of}
use Rattle.encode.proofs.Answered.{denied, wrote}
use Rattle.encode.proofs.Measures as M
use Rattle.encode.proofs.copy.copy_response.Goals as goal

pub returns-in_err-n : goal.returns-in_err-n
returns-in_err-n c = let a = c.args in
    denied (M.formatted a.type_byte a.format a.column_formats.now) (omega arith) (cc) (λ _. omega (arith, c.plus-size.ensures))
    (err_from_is_err_and c.from_residual.result c.from_residual.ensures.1) c.in_err-n.ensures

pub returns : goal.returns
unfolding body_bytes bytes_of_each bytes atom_bytes
returns c = let a = c.args in
    let small : c.bits8.result < 256 = omega arith in
    let format = bits_of_lem w8 1 a.format c.ranges.format c.bits8.ensures in
    wrote (M.formatted a.type_byte a.format a.column_formats.now) (omega arith) (cc) (λ _. omega (arith, c.plus-size.ensures)) c.in_ok-n.ensures c.put_head-at.ensures
    (λ able. (λ h. byte_of a.format small format (c.put_byte-at.ensures.fits refl h)) and c.put_formats.ensures.fits (le-leb (length a.column_formats.now) (most unsigned_count) (let few = leb-true _ _ able in omega (arith, few))) and none)
    (omega arith)
