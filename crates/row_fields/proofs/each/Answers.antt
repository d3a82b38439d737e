-- `row_fields::each` meets its contract: a turn takes one field from what is left.
use Rattle.std.proofs.Common.{List, ap, sym, ◌∙◌}
use Rattle.protocol.specs.declared.data.FieldDescription.{FieldDescription}
use Rattle.writers.proofs.Laws.{drop_more, drop-end}
use Rattle.row_fields.specs.Passes.{all_pass, all_out}
use Rattle.row_fields.proofs.each.Goals as goal

pub loop-f-preserved : goal.loop-f-preserved
unfolding all_pass all_out
loop-f-preserved c =
    let q = c.loop-f in
    let fields = c.args.fields.now in
    let run = c.args.run.now in
    let left = sym (drop_more fields q.f-index _ c.loop-f-test.true) in
    record {
      pass = rw c.step-c.ensures.0 (ap (λ (fs : List FieldDescription). all_pass fs run q.c) left ∙ q.invariant.pass);
      out = rw (c.step-c.ensures.0, c.step-c.ensures.1) (ap (λ (fs : List FieldDescription). all_out fs run q.out q.c) left ∙ q.invariant.out);
    }

pub returns : goal.returns
unfolding all_pass all_out
returns c =
    let q = c.loop-f in
    let none = sym (drop-end c.args.fields.now q.f-index c.loop-f-test.false) in (
      ap (λ (fs : List FieldDescription). all_pass fs c.args.run.now q.c) none ∙ q.invariant.pass,
      ap (λ (fs : List FieldDescription). all_out fs c.args.run.now q.out q.c) none ∙ q.invariant.out,
    )
