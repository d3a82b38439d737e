-- `host::decoding::tusweram_decode` meets its contract: what decode answers, laid out.
use mathlib.Core.Path.{ap, ◌∙◌}
use Rattle.host_layout.specs.LaidOut.{laid_out}
use Rattle.host.proofs.decoding.tusweram_decode.Goals as goal

pub returns : goal.returns
returns c = c.laid_out.ensures ∙ ap laid_out c.decode.ensures
