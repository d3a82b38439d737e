-- `host_parts::reading::tusweram_data_row` meets its contract: what the reader answers, laid out.
use Prim.Native.Nat.{ℕ}
use mathlib.Core.List.{List}
use mathlib.Core.Path.{◌≡◌, ap, ◌∙◌}
use Rattle.std.specs.Prelude.{Err}
use Rattle.protocol.specs.declared.refusal.Unread.TheVariants as U
use Rattle.protocol.specs.declared.refusal.Unread.{Unread}
use Rattle.protocol.specs.Kinds.{data_row}
use Rattle.reader.specs.Row.{row_told}
use Rattle.host_layout.specs.LaidOut.{unread_out}
use Rattle.host_parts.specs.Reads.{row_out}
use Rattle.host_parts.proofs.reading.tusweram_data_row.Goals as goal

no_row_out : {out : List ℕ} (u : Unread) → out ≡ unread_out u → out ≡ row_out (row_told (Err u))
unfolding row_out
no_row_out U.NeedMore e = e
no_row_out (U.Refused r) e = e

pub returns-in-Ok : goal.returns-in-Ok
unfolding row_out data_row
returns-in-Ok c = let h = c.in-Ok.ensures in
    record {
      answer = c.one_list.ensures ∙ ap row_out h.answer;
      starts = rw (← h.answer) h.starts;
      lengths = rw (← h.answer) h.lengths;
    }

pub returns-in-Err : goal.returns-in-Err
returns-in-Err c = let h = c.in-Err.ensures in
    record {
      answer = no_row_out _ c.unread.ensures ∙ ap row_out h.answer;
      starts = rw (← h.answer) h.starts;
      lengths = rw (← h.answer) h.lengths;
    }
