-- The loop of `items::Item::pass`: what is left to pass from here is what there was to pass at first.
use Rattle.std.proofs.Common.{◌≡◌, ◌-◌}
use Rattle.protocol.specs.Reading.{pass_items}
use Rattle.items.proofs.Item.pass.Given as goal

abbrev pub invariant-loop : goal.invariant-loop
invariant-loop g l = pass_items l.rules g.Self.Item.item (l.count - l.counter) l.frame l.c.at ≡ pass_items l.rules g.Self.Item.item l.count l.frame l.initial.c.at
