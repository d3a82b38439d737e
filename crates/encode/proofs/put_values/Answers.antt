-- `encode::put_values` meets its contract.
use Prim.Native.Nat.{ℕ, ◌+◌, ◌*◌}
use mathlib.Core.List.{List}
use mathlib.Core.Path.{◌≡◌, refl, ap, ◌∙◌, sym}
use native.Mathlib.Omega.{arith}
use borrow.Author.Rules.{rules}
use lib.IntN.{ℤ, pos}
use lib.ListN.{length, get_or, drop}
use mir.Syntax.{w32}
use mir.Val.{SFits}
use mir.ValLaws.{to_z-of_z}
use Rattle.protocol.specs.Bytes.{be}
use Rattle.protocol.specs.Encode.{values_given}
use Rattle.protocol.specs.Fields.{unsigned_count, bytes}
use Rattle.protocol.specs.Kinds.{values}
use Rattle.writers.specs.Writing.{write, Wrote}
use Rattle.writers.proofs.Laws.{turn, ◌then◌}
use Rattle.writers.proofs.Puts.{same_size}
use Rattle.writers.proofs.ValueLaws.{values_bytes, values_are}
use Rattle.encode.specs.Writing.{WroteGiven}
use Rattle.encode.proofs.Turns.{value_turn, value_end}
use Rattle.encode.proofs.put_values.Goals as goal

values-field : {d mid out : List ℕ} {p at next : ℕ} (zs : List ℤ) (bs : List ℕ)
    → Wrote d p (be 2 (length zs)) 2 mid at → out ≡ write mid at (values_bytes zs bs) → next ≡ at + (4 * length zs + length bs)
    → WroteGiven (values unsigned_count) (values_given zs bs) d p (2 + (4 * length zs + length bs)) out next
unfolding bytes
values-field zs bs w e at = record {
  field = λ vs is.
      let v = values_are zs bs vs is in
      rw (v.many, v.written) (w then record { bytes = e; size = v.size; place = at });
  place = omega (arith, w.place);
}

pub split_at-requires : goal.split_at-requires
split_at-requires c = let q = c.loop-len in
    let fits : SFits w32 (get_or c.args.lengths.now q.len-index (pos 0)) = search rules in
    let size = rw (to_z-of_z w32 _ fits) at c.size_of.ensures in
    rw size (value_turn c.args.lengths.now q.rest.now q.len-index c.loop-len-test.true q.invariant.2).fits

pub loop-len-preserved : goal.loop-len-preserved
loop-len-preserved c = let q = c.loop-len in
    let zs = c.args.lengths.now in
    let fits : SFits w32 (get_or zs q.len-index (pos 0)) = search rules in
    let size = rw (to_z-of_z w32 _ fits) at c.size_of.ensures in
    let bits = rw (to_z-of_z w32 _ fits) at c.bits32.ensures in
    let t = value_turn zs q.rest.now q.len-index c.loop-len-test.true q.invariant.2 in
    let cut = c.split_at.ensures in
    let step = rw (← bits, ← size, ← cut.front, ← cut.back) at t.bytes in
    let h = c.put_half-p.ensures.fits refl (omega (arith, c.requires.0)) in
    let s = c.put_value-p.ensures.fits refl (omega (arith, cut, h.place, same_size h)) in (
      omega (arith, cut, s.place),
      omega arith,
      rw (cut.back, size) t.more,
      turn (values_bytes (drop (q.len-index + 1) zs) c.split_at.result.1.now) s (ap (write q.out q.p) (sym step) ∙ q.invariant.3),
    )

pub returns : goal.returns
unfolding values_bytes
returns c = let q = c.loop-len in
    let zs = c.args.lengths.now in
    let all = value_end zs q.rest.now q.len-index c.loop-len-test.false q.invariant.2 in
    let none : length q.rest.now ≡ 0 = ap length all.0 in
    values-field zs c.args.joined.now (c.put_half-p.ensures.fits refl (omega arith)) (rw all.1 at q.invariant.3) (omega (arith, none))
