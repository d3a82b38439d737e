-- `protocol::tables::line_at` meets its contract: each arm is a mode, whose table is the rows' lines, which computes.
use Rattle.std.proofs.Common.{rules, ◌∙◌, sym}
use Rattle.protocol.specs.Kinds.{find, the_table}
use Rattle.protocol.specs.Rules.{rules_of}
use Rattle.protocol.proofs.Find.{mode_is, no_mode}
use Rattle.protocol.proofs.Lines.{lined_there, of_mode, of_none}
use Rattle.protocol.proofs.tables.line_at.Goals as goal

pub returns-in-Ok-Frontend : goal.returns-in-Ok-Frontend
unfolding find the_table
returns-in-Ok-Frontend c =
    let k = c.in-Ok-Frontend in
    let h = c.line_in.ensures ∙ of_mode (rules_of c.args.mode) _ (mode_is _ (sym (rw k.field-0-is at k.ensures))) in
    record { there = h; line = lined_there _ _ h }

pub returns-in-Ok-Backend : goal.returns-in-Ok-Backend
unfolding find the_table
returns-in-Ok-Backend c =
    let k = c.in-Ok-Backend in
    let h = c.line_in-in-Ok-Backend.ensures ∙ of_mode (rules_of c.args.mode) _ (mode_is _ (sym (rw k.field-0-is at k.ensures))) in
    record { there = h; line = lined_there _ _ h }

pub returns-in-Ok-CancelRequest : goal.returns-in-Ok-CancelRequest
unfolding find the_table
returns-in-Ok-CancelRequest c =
    let k = c.in-Ok-CancelRequest in
    let h = c.line_in-in-Ok-CancelRequest.ensures ∙ of_mode (rules_of c.args.mode) _ (mode_is _ (sym (rw k.field-0-is at k.ensures))) in
    record { there = h; line = lined_there _ _ h }

pub returns-in-Ok-TlsAnswer : goal.returns-in-Ok-TlsAnswer
unfolding find the_table
returns-in-Ok-TlsAnswer c =
    let k = c.in-Ok-TlsAnswer in
    let h = c.line_in-in-Ok-TlsAnswer.ensures ∙ of_mode (rules_of c.args.mode) _ (mode_is _ (sym (rw k.field-0-is at k.ensures))) in
    record { there = h; line = lined_there _ _ h }

pub returns-in-Ok-GssAnswer : goal.returns-in-Ok-GssAnswer
unfolding find the_table
returns-in-Ok-GssAnswer c =
    let k = c.in-Ok-GssAnswer in
    let h = c.line_in-in-Ok-GssAnswer.ensures ∙ of_mode (rules_of c.args.mode) _ (mode_is _ (sym (rw k.field-0-is at k.ensures))) in
    record { there = h; line = lined_there _ _ h }

pub returns-in-Ok-FirstPacket : goal.returns-in-Ok-FirstPacket
unfolding find the_table
returns-in-Ok-FirstPacket c =
    let k = c.in-Ok-FirstPacket in
    let h = c.line_in-in-Ok-FirstPacket.ensures ∙ of_mode (rules_of c.args.mode) _ (mode_is _ (sym (rw k.field-0-is at k.ensures))) in
    record { there = h; line = lined_there _ _ h }

pub returns-in-Err : goal.returns-in-Err
unfolding find the_table
returns-in-Err c =
    let h = of_none (rules_of c.args.mode) c.args.index (no_mode _ (search rules)) in
    record { there = h; line = lined_there _ _ h }
