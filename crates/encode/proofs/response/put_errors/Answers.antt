-- `encode::response::put_errors` meets its contract.
use Prim.Native.Nat.{◌+◌}
use mathlib.Core.List.{◌++◌, ◌∷◌, []}
use mathlib.Core.Path.{◌≡◌, refl, ap, ◌∙◌, sym}
use native.Mathlib.Omega.{arith}
use lib.ListN.{length, drop, length-append}
use Rattle.std.proofs.Common.{rules}
use Rattle.std.proofs.lemmas.Slice.Zip.{zip_turn, zip_end}
use Rattle.std.specs.Iterator.Adapters.{zip_first, zip_second}
use Rattle.std.specs.Slice.Iter.{iter_rest}
use Rattle.protocol.specs.Encode.{error_fields_given}
use Rattle.protocol.specs.Kinds.{error_field}
use Rattle.writers.specs.Writing.{write}
use Rattle.writers.proofs.ErrorLaws.{errors_many, errors_bytes, errors_are}
use Rattle.writers.proofs.Laws.{turn, ◌then◌}
use Rattle.encode.proofs.Ended.{ended_field}
use Rattle.encode.proofs.Turns.{error_turn, error_end}
use Rattle.encode.proofs.response.put_errors.Goals as goal

pub loop-code-init : goal.loop-code-init
loop-code-init c = let a = c.args in
    (errors_many a.codes.now a.lengths.now a.joined.now c.requires.1, omega arith, refl, c.requires.1, refl)

pub split_at-requires : goal.split_at-requires
split_at-requires c = let q = c.loop-code in
    let first : iter_rest (zip_first c.into_iter-code-iterator.result) ≡ c.args.codes.now = search rules in
    let second : iter_rest (zip_second c.into_iter-code-iterator.result) ≡ c.args.lengths.now = search rules in
    let at = zip_turn c.args.codes.now c.args.lengths.now q.yielded _ _ c.next.new.self _ first second q.yielded_by _ c.in-Some.is c.next.ensures.steps in
    rw (at.3 0) (error_turn c.args.codes.now c.args.lengths.now q.rest.now (length q.yielded) at.0 at.1 q.invariant.3).fits

pub loop-code-preserved : goal.loop-code-preserved
loop-code-preserved c = let q = c.loop-code in
    let cs = c.args.codes.now in
    let ns = c.args.lengths.now in
    let first : iter_rest (zip_first c.into_iter-code-iterator.result) ≡ cs = search rules in
    let second : iter_rest (zip_second c.into_iter-code-iterator.result) ≡ ns = search rules in
    let at = zip_turn cs ns q.yielded _ _ c.next.new.self _ first second q.yielded_by _ c.in-Some.is c.next.ensures.steps in
    let t = error_turn cs ns q.rest.now (length q.yielded) at.0 at.1 q.invariant.3 in
    let fits = rw (← at.3 0) at t.fits in
    let cut = c.split_at.ensures in
    let step = rw (← at.2 0, ← at.3 0, ← cut.front, ← cut.back) at t.bytes in
    let more = rw (← at.3 0, ← cut.back) at t.more in
    let u = c.put_byte-p.ensures.fits refl (omega (arith, cut, fits)) in
    let s = c.put_text-p.ensures.fits refl (omega (arith, cut, fits, u.place)) in
    let next : length (q.yielded ++ (c.in-Some.code, c.in-Some.len) ∷ []) ≡ length q.yielded + 1 = length-append q.yielded ((c.in-Some.code, c.in-Some.len) ∷ []) in
    rw next (
      q.invariant.0,
      omega (arith, cut, u.place, s.place),
      omega arith,
      more,
      turn (errors_bytes (drop (length q.yielded + 1) cs) (drop (length q.yielded + 1) ns) c.split_at.result.1.now) (u then s) (ap (write q.out q.p) (sym step) ∙ q.invariant.4),
    )

pub returns : goal.returns
returns c = let q = c.loop-code in
    let cs = c.args.codes.now in
    let ns = c.args.lengths.now in
    let first : iter_rest (zip_first c.into_iter-code-iterator.result) ≡ cs = search rules in
    let second : iter_rest (zip_second c.into_iter-code-iterator.result) ≡ ns = search rules in
    let over = zip_end cs ns q.yielded _ _ c.next.new.self _ first second q.yielded_by c.in-None.is c.next.ensures.steps in
    let all = error_end cs ns q.rest.now (length q.yielded) q.invariant.0 (omega (arith, over, q.invariant.0)) q.invariant.3 in
    let none : length q.rest.now ≡ 0 = ap length all.0 in
    ended_field error_field (error_fields_given cs ns c.args.joined.now)
    (λ fs is. let v = errors_are cs ns c.args.joined.now fs (λ k. (c.type_inv.codes k).fits) is in (v.written, v.size))
    (rw all.1 at q.invariant.4) (omega (arith, none, over, q.invariant.0)) (c.put_byte.ensures.fits refl (omega (arith, none)))
