-- `writers::put_oids` meets its contract.
use Rattle.protocol.specs.Fields.{bytes}
use Rattle.writers.proofs.Lists.{length-items, words_are}
use Rattle.writers.proofs.put_oids.Goals as goal

pub returns : goal.returns
unfolding bytes
returns c = let xs = c.args.xs.now in rw (length-items xs, words_are xs) c.put_counted.ensures
