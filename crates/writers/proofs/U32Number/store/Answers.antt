-- `writers::Number::store` of an oid meets its contract.
use mathlib.Core.Path.{refl}
use Rattle.writers.proofs.Laws.{be4, singly, wrote_as}
use Rattle.writers.proofs.U32Number.store.Goals as goal

pub returns : goal.returns
returns c = wrote_as (rw c.to_be_bytes.ensures (singly c.args.out.now c.args.at _ _ _ _)) (be4 c.args.self) refl
