-- What is left of the pass is what there was at first.
use Rattle.std.proofs.Common.{◌≡◌, drop}
use Rattle.row_fields.specs.Passes.{all_pass, all_out}
use Rattle.row_fields.proofs.each.Given as goal

abbrev pub invariant-loop-f : goal.invariant-loop-f
invariant-loop-f l = record {
  pass : all_pass (drop l.f-index l.fields) l.run l.c ≡ all_pass l.fields l.run l.initial.c;
  out : all_out (drop l.f-index l.fields) l.run l.out l.c ≡ all_out l.fields l.run l.initial.out l.initial.c;
}
