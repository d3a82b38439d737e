-- `codec::Cursor::fixed` meets its contract.
use Rattle.std.proofs.Common.{refl, sym, arith}
use Rattle.std.proofs.lemmas.Result.{err_from_is_err_and}
use Rattle.protocol.proofs.Counts.{counted_is}
use Rattle.codec.specs.Fixed.{read_fixed}
use Rattle.codec.proofs.Cursor.fixed.Goals as goal

pub returns-in_err-list : goal.returns-in_err-list
unfolding read_fixed
returns-in_err-list c =
    let p = err_from_is_err_and c.from_residual.result c.from_residual.ensures.1 in
    rw (p.1, p.2, ← c.in_err-list.ensures) refl

pub overflow_mul-at : goal.overflow_mul-at
overflow_mul-at c = let k = counted_is _ _ _ _ _ _ (sym c.in_ok-list.ensures) in omega (arith, k.room, k.fits)

pub overflow_add-at : goal.overflow_add-at
overflow_add-at c = let k = counted_is _ _ _ _ _ _ (sym c.in_ok-list.ensures) in omega (arith, k.room, k.fits)

pub returns : goal.returns
unfolding read_fixed
returns c = rw (← c.in_ok-list.ensures) refl
