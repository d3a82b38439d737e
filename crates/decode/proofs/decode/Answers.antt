-- `decode::decode` meets its contract: it decodes by the rules that are made of the mode.
use mathlib.Core.Path.{ap, ◌∙◌}
use Rattle.protocol.specs.declared.Rules.{Rules}
use Rattle.protocol.specs.Decode.{decode_of}
use Rattle.decode.proofs.decode.Goals as goal

pub returns : goal.returns
returns c = c.decode_by.ensures ∙ ap (λ (rules : Rules). decode_of rules c.args.buf.now) c.rules_of.ensures
