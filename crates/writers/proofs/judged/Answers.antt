-- `writers::judged` meets its contract.
use Prim.Native.Nat.{◌+◌}
use mathlib.Core.Path.{refl}
use native.Mathlib.Omega.{arith}
use borrow.Author.Tests.{lt-ltb, le-ltb}
use Rattle.writers.specs.Writing.{verdict_of}
use Rattle.writers.proofs.judged.Goals as goal

pub returns-then-not-able : goal.returns-then-not-able
unfolding verdict_of
returns-then-not-able c = rw (c.at.ensures, c.if-not-able.true) refl

pub returns-then-limit-size : goal.returns-then-limit-size
unfolding verdict_of
returns-then-limit-size c = rw (c.at-then-limit-size.ensures, c.if-not-able.false, lt-ltb _ _ c.if-limit-size.true) refl

pub returns-then-room-whole : goal.returns-then-room-whole
unfolding verdict_of
returns-then-room-whole c = let a = c.args in
    rw (c.at-then-room-whole.ensures, c.if-not-able.false, le-ltb _ _ c.if-limit-size.false, lt-ltb a.room (a.size + a.uncounted) (omega arith)) refl

pub returns : goal.returns
unfolding verdict_of
returns c = let a = c.args in
    rw (c.if-not-able.false, le-ltb _ _ c.if-limit-size.false, le-ltb a.room (a.size + a.uncounted) (omega arith)) refl
