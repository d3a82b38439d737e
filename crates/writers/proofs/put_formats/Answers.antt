-- `writers::put_formats` meets its contract.
use Rattle.protocol.specs.Fields.{bytes}
use Rattle.writers.proofs.Lists.{length-items, halves_are}
use Rattle.writers.proofs.put_formats.Goals as goal

pub returns : goal.returns
unfolding bytes
returns c = let xs = c.args.xs.now in rw (length-items xs, halves_are xs) c.put_counted.ensures
