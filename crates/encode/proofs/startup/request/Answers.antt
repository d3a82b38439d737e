-- `encode::startup::request` meets its contract.
use mathlib.Core.Path.{refl}
use native.Mathlib.Omega.{arith}
use Rattle.protocol.specs.Bytes.{be}
use Rattle.protocol.specs.Each.{able_each, bytes_of_each}
use Rattle.protocol.specs.Kinds as K
use Rattle.protocol.specs.WellFormed.{body_bytes, header, frame}
use Rattle.writers.proofs.Encoding.{short, enough, refused, done, framed_whole}
use Rattle.writers.proofs.Puts.{◌and◌, none}
use Rattle.encode.specs.Given as G
use Rattle.encode.proofs.startup.request.Goals as goal

pub returns-then-out-lt8 : goal.returns-then-out-lt8
unfolding K.first_packet able_each body_bytes bytes_of_each be header frame
returns-then-out-lt8 c = rw c.at.ensures (refused (short K.first_packet (G.requested c.args.code) tt refl refl refl (omega (arith, c.if-out-lt8))) refl)

pub returns : goal.returns
unfolding K.first_packet able_each body_bytes bytes_of_each be header frame
returns c = done (enough K.first_packet (G.requested c.args.code) tt refl refl refl (omega (arith, c.if-out-lt8))) refl
    (framed_whole (G.requested c.args.code) tt
    (((c.put_word-at.ensures.fits refl and c.put_word.ensures.fits refl) and none) (omega (arith, c.if-out-lt8))))
