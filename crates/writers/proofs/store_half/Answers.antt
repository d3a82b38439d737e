-- `writers::store_half` meets its contract.
use mathlib.Core.Path.{refl, ◌∙◌}
use Rattle.writers.proofs.Laws.{be2, wrote_as}
use Rattle.writers.proofs.store_half.Goals as goal

pub returns : goal.returns
returns c = wrote_as c.store_block.ensures (c.to_be_bytes.ensures ∙ be2 c.args.half) refl
