-- `host_parts::reading::tusweram_value` meets its contract: what the reader answers, laid out.
use Rattle.std.specs.Prelude.{ℕ, List}
use mathlib.Core.Path.{◌≡◌, ap, ◌∙◌}
use Rattle.protocol.specs.Reading.{bad}
use Rattle.host_layout.specs.LaidOut.{refused_out}
use Rattle.host_parts.specs.Reads.{value_out}
use Rattle.host_parts.proofs.reading.tusweram_value.Goals as goal

refused_as : {out : List ℕ} (number place : ℕ) → out ≡ refused_out 16 number place → out ≡ value_out (bad number place)
unfolding value_out
refused_as number place e = e

pub returns-in-Ok-Some-default : goal.returns-in-Ok-Some-default
unfolding value_out
returns-in-Ok-Some-default c =
    let read = rw c.in-Ok-Some-default.field-0-0-is at c.in-Ok-Some-default.ensures in
    c.one_span.ensures ∙ ap value_out read

pub returns-in-Ok-None-default : goal.returns-in-Ok-None-default
unfolding value_out
returns-in-Ok-None-default c =
    let read = rw c.in-Ok-None-default.field-0-0-is at c.in-Ok-None-default.ensures in
    c.none.ensures ∙ ap value_out read

pub returns-in-Err : goal.returns-in-Err
returns-in-Err c = refused_as _ _ c.refusal.ensures ∙ ap value_out c.in-Err.ensures
