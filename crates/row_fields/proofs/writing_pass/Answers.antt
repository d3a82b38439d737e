-- `row_fields::writing_pass` meets its contract.
use Rattle.std.proofs.Common.{Result, Ok, Err, true, ◌≡◌, refl, ℕ}
use Rattle.std.specs.Prelude.{is_ok}
use Rattle.row_fields.specs.Passes.{told, writing_pass}
use Rattle.row_fields.proofs.writing_pass.Goals as goal

by : {E : Type 0} (r : Result ℕ E) → record { at = 7; ok = true; writing = is_ok r } ≡ writing_pass (told r)
unfolding writing_pass
by (Ok n) = refl
by (Err e) = refl

pub returns : goal.returns
returns g c = rw c.is_ok.ensures.value (by c.args.r)
