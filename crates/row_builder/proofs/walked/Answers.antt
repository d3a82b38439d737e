-- `row_builder::walked` meets its contract: one walk, and another behind it.
use Rattle.row_builder.proofs.Heads.{at_its_end, elsewhere, walk_on, walk_refused}
use Rattle.row_builder.proofs.walked.Goals as goal

pub returns-in_default : goal.returns-in_default
returns-in_default c = walk_refused c.rules_of-rules.ensures _ _ _ c.in_default.ensures

pub returns-in_default-pass_values : goal.returns-in_default-pass_values
returns-in_default-pass_values c = walk_on c.rules_of-rules.ensures _ _ _ c.in-Ok.ensures c.in_default-pass_values.ensures

pub returns-then-end-frame : goal.returns-then-end-frame
returns-then-end-frame c = at_its_end _ (walk_on c.rules_of-rules.ensures _ _ _ c.in-Ok.ensures c.in-Ok-pass_values.ensures) c.if-end-frame.true

pub returns : goal.returns
returns c = elsewhere _ (walk_on c.rules_of-rules.ensures _ _ _ c.in-Ok.ensures c.in-Ok-pass_values.ensures) c.if-end-frame.false
