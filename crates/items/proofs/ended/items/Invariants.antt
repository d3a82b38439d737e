-- The loop of `items::ended::items`: the list from here on, after the items passed, is the list from the start, and each of them took a byte at least.
use Rattle.std.proofs.Common.{◌≡◌, ◌+◌, ◌-◌, ◌≤◌, length}
use Rattle.protocol.specs.Reading.{ended_from}
use Rattle.items.proofs.ended.items.Given as goal

abbrev pub invariant-loop-first : goal.invariant-loop-first
invariant-loop-first g l = record {
  same_list : ended_from l.rules g.I.Item.item (length l.frame) l.frame l.c.at l.count ≡ ended_from l.rules g.I.Item.item (length l.frame) l.frame l.initial.c.at 0;
  further : l.count + l.initial.c.at ≤ l.c.at;
}

abbrev pub decreases-loop-first : goal.decreases-loop-first
decreases-loop-first g l = length l.frame - l.c.at
