-- `row_fields::step` meets its contract.
use mathlib.Core.Path.{◌≡◌, ◌∙◌}
use native.Mathlib.Omega.{arith}
use Rattle.row_fields.specs.Passes.{after}
use Rattle.row_fields.proofs.Fields.{stepped, roomy, put, unwritten}
use Rattle.row_fields.proofs.step.Goals as goal
use Rattle.row_fields.proofs.step.Goals.{then-c-able, else-c-able}

pub put_field-requires : goal.put_field-requires
unfolding after
put_field-requires c = let a = c.args in
    let place : c.plus-at.result ≡ after a.c a.f.now = omega (arith, c.plus-at.ensures, c.plus.ensures) in
    roomy a.c a.f.now a.run.now c.name_able-able.ensures place a.out.now c.if-c-able.true (omega arith)

pub returns : goal.returns
unfolding after
returns c = let a = c.args in
    let place : c.plus-at.result ≡ after a.c a.f.now = omega (arith, c.plus-at.ensures, c.plus.ensures) in
    let same = c.name_able-able.ensures in (
      stepped a.c a.f.now a.run.now same place,
      elim c.if-c-able.branch [
        | then-c-able w ↦ w.out-is ∙ put a.c a.f.now a.run.now same place a.out.now w.if-c-able.true w.put_field.ensures.bytes
        | else-c-able w ↦ w.out-is ∙ unwritten a.c a.f.now a.run.now same place a.out.now w.if-c-able.false
      ],
    )
