-- `encode::response::lone` meets its contract.
use Prim.Native.Nat.{◌≤◌}
use Rattle.std.proofs.lemmas.Grind.{common_steps}
use mathlib.Core.Path.{refl, ◌≡◌}
use native.Mathlib.Omega.{arith}
use lib.ListN.{length}
use Rattle.protocol.specs.Each.{able_each, bytes_of_each}
use Rattle.protocol.specs.Kinds as K
use Rattle.protocol.specs.WellFormed.{body_bytes, header, frame}
use Rattle.writers.proofs.Encoding.{short, enough, refused, done, framed_whole}
use Rattle.encode.specs.Given as G
use Rattle.encode.proofs.response.lone.Goals as goal

pub returns-then-is_empty : goal.returns-then-is_empty
unfolding K.tls_answer able_each body_bytes bytes_of_each header frame
returns-then-is_empty c =
    let none_left : length c.args.out.now ≡ 0 = grind (arith, common_steps, c.if-is_empty.ensures) in
    rw c.at.ensures (refused (short K.tls_answer (G.lone c.args.byte) tt refl refl refl (omega arith)) refl)

pub returns : goal.returns
unfolding K.tls_answer able_each body_bytes bytes_of_each header frame
returns c =
    let room : 1 ≤ length c.args.out.now = grind (arith, common_steps, c.if-is_empty.ensures) in
    done (enough K.tls_answer (G.lone c.args.byte) tt refl refl refl room) refl
    (framed_whole (G.lone c.args.byte) tt (c.put_byte.ensures.fits refl room))
