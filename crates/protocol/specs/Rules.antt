-- What a frame is read by, made of what the caller says. Every call makes it here, so that a further rule is a field of `Rules` and an argument here.
use Rattle.std.specs.Prelude.{ℕ}
use Rattle.protocol.specs.declared.Rules.{Rules}

abbrev pub rules_of : ℕ → Rules
rules_of mode = record { mode = mode }
