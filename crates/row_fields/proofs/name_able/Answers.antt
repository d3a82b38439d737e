-- `row_fields::name_able` meets its contract.
use Prim.Native.Nat.{◌+◌}
use mathlib.Core.Path.{refl, ap, ◌∙◌}
use borrow.Author.Tests.{le-leb, lt-leb}
use lib.ListN.{length}
use Rattle.protocol.specs.Bytes.{no_zero}
use Rattle.row_fields.specs.Passes.{passed}
use Rattle.row_fields.proofs.name_able.Goals as goal

pub returns-in_default : goal.returns-in_default
unfolding passed
returns-in_default c = let a = c.args in
    rw (lt-leb (a.f.name.start + a.f.name.len) (length a.run.now) c.in_default.ensures) refl

pub returns-then-writing : goal.returns-then-writing
unfolding passed
returns-then-writing c = let a = c.args in
    rw (c.if-writing.true, le-leb (a.f.name.start + a.f.name.len) (length a.run.now) c.in-Some.ensures.0) refl

pub returns-else-writing : goal.returns-else-writing
unfolding passed
returns-else-writing c = let a = c.args in
    rw (c.if-writing.false, le-leb (a.f.name.start + a.f.name.len) (length a.run.now) c.in-Some.ensures.0)
    (c.no_zero.ensures ∙ ap no_zero c.in-Some.ensures.1)
