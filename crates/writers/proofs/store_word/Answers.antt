-- `writers::store_word` meets its contract.
use mathlib.Core.Path.{refl, ◌∙◌}
use Rattle.writers.proofs.Laws.{be4, wrote_as}
use Rattle.writers.proofs.store_word.Goals as goal

pub returns : goal.returns
returns c = wrote_as c.store_block.ensures (c.to_be_bytes.ensures ∙ be4 c.args.word) refl
