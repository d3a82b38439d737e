-- `writers::put_word` meets its contract.
use mathlib.Core.Path.{refl, ◌∙◌}
use Rattle.writers.proofs.Laws.{be4}
use Rattle.writers.proofs.Puts.{put_as}
use Rattle.writers.proofs.put_word.Goals as goal

pub returns : goal.returns
returns c = put_as c.put_block.ensures (c.to_be_bytes.ensures ∙ be4 c.args.word) refl
