-- The loop of `codec::Cursor::pass_values`: what is left to pass from here is what there was to pass at first.
use Rattle.std.proofs.Common.{◌≡◌, ◌-◌}
use Rattle.protocol.specs.Kinds.{nullable}
use Rattle.protocol.specs.Reading.{pass_items}
use Rattle.codec.proofs.Cursor.pass_values.Given as goal

abbrev pub invariant-loop : goal.invariant-loop
invariant-loop l = pass_items l.rules nullable (l.count - l.counter) l.frame l.c.at ≡ pass_items l.rules nullable l.count l.frame l.initial.c.at
