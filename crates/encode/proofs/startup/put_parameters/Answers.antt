-- `encode::startup::put_parameters` meets its contract.
use Prim.Native.Nat.{◌+◌}
use mathlib.Core.Path.{◌≡◌, refl, ap, ◌∙◌, sym}
use native.Mathlib.Omega.{arith}
use lib.ListN.{length, drop}
use Rattle.protocol.specs.Encode.{pairs_given}
use Rattle.protocol.specs.Kinds.{pair}
use Rattle.writers.specs.Writing.{write}
use Rattle.writers.proofs.Laws.{turn}
use Rattle.writers.proofs.TextLaws.{texts_bytes, pairs_are}
use Rattle.encode.proofs.Ended.{ended_field}
use Rattle.encode.proofs.Turns.{text_turn, text_end}
use Rattle.encode.proofs.startup.put_parameters.Goals as goal

pub split_at-requires : goal.split_at-requires
split_at-requires c = let q = c.loop-len in (text_turn c.args.lengths.now q.rest.now q.len-index c.loop-len-test.true q.invariant.2).fits

pub loop-len-preserved : goal.loop-len-preserved
loop-len-preserved c = let q = c.loop-len in
    let ns = c.args.lengths.now in
    let t = text_turn ns q.rest.now q.len-index c.loop-len-test.true q.invariant.2 in
    let cut = c.split_at.ensures in
    let step = rw (← cut.front, ← cut.back) at t.bytes in
    let s = c.put_text-p.ensures.fits refl (omega (arith, cut, t.fits)) in (
      omega (arith, cut, s.place),
      omega arith,
      rw cut.back t.more,
      turn (texts_bytes (drop (q.len-index + 1) ns) c.split_at.result.1.now) s (ap (write q.out q.p) (sym step) ∙ q.invariant.3),
    )

pub returns : goal.returns
returns c = let q = c.loop-len in
    let ns = c.args.lengths.now in
    let all = text_end ns q.rest.now q.len-index c.loop-len-test.false q.invariant.2 in
    let none : length q.rest.now ≡ 0 = ap length all.0 in
    ended_field pair (pairs_given ns c.args.joined.now)
    (λ ps is. let v = pairs_are ns c.args.joined.now ps is in (v.written, v.size))
    (rw all.1 at q.invariant.3) (omega (arith, none)) (c.put_byte.ensures.fits refl (omega (arith, none)))
