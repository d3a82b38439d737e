-- `writers::put_half` meets its contract.
use mathlib.Core.Path.{refl, ◌∙◌}
use Rattle.writers.proofs.Laws.{be2}
use Rattle.writers.proofs.Puts.{put_as}
use Rattle.writers.proofs.put_half.Goals as goal

pub returns : goal.returns
returns c = put_as c.put_block.ensures (c.to_be_bytes.ensures ∙ be2 c.args.half) refl
