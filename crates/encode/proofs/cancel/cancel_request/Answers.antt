-- `encode::cancel::cancel_request` meets its contract.
use mathlib.Core.Path.{refl}
use native.Mathlib.Omega.{arith}
use mir.Syntax.{w32}
use Rattle.protocol.specs.Bytes.{be}
use Rattle.protocol.specs.Each.{able_each, bytes_of_each}
use Rattle.protocol.specs.Fields.{able, bytes, atom_able, atom_bytes}
use Rattle.protocol.specs.Kinds as K
use Rattle.protocol.specs.WellFormed.{body_bytes, header, frame}
use Rattle.writers.proofs.Encoding.{short, enough, refused, done, framed_whole}
use Rattle.writers.proofs.Puts.{◌and◌, none}
use Rattle.writers.proofs.Signs.{bits_of_lem}
use Rattle.encode.specs.Given as G
use Rattle.encode.proofs.Shapes.{as_kind}
use Rattle.encode.proofs.cancel.cancel_request.Goals as goal

pub returns-then-out-lt16 : goal.returns-then-out-lt16
unfolding K.cancel K.first_packet K.cancel_request G.cancel_request able_each able atom_able body_bytes bytes_of_each bytes atom_bytes be header frame
returns-then-out-lt16 c =
    let a = c.args in
    let e = refused (short K.cancel K.cancel_request (a.pid, (a.secret_key, tt)) refl refl refl (omega (arith, c.if-out-lt16))) refl in
    rw c.at.ensures (record { as_cancel = e; as_first_packet = as_kind e K.first_packet (K.cancel_request).message refl refl })

pub returns : goal.returns
unfolding K.cancel K.first_packet K.cancel_request G.cancel_request able_each able atom_able body_bytes bytes_of_each bytes atom_bytes be header frame
returns c = let a = c.args in
    let pid = bits_of_lem w32 4 a.pid c.ranges.pid c.bits32.ensures in
    let key = bits_of_lem w32 4 a.secret_key c.ranges.secret_key c.bits32-2.ensures in
    let e = done (enough K.cancel K.cancel_request (a.pid, (a.secret_key, tt)) refl refl refl (omega (arith, c.if-out-lt16))) refl
    (framed_whole K.cancel_request (a.pid, (a.secret_key, tt))
    (((c.put_word-at.ensures.fits refl and c.put_word-at-2.ensures.fits refl)
    and rw pid at (c.put_word-at-3.ensures.fits refl) and rw key at (c.put_word.ensures.fits refl) and none)
    (omega arith))) in
    record { as_cancel = e; as_first_packet = as_kind e K.first_packet (K.cancel_request).message refl refl }
