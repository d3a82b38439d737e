-- The loop of `reader::row::fill`.
use Rattle.std.proofs.Common.{ℕ, ◌-◌, ◌≡◌}
use lib.IntN.{ℤ}
use lib.Seq.{sets}
use Rattle.reader.specs.Row.{Place}
use Rattle.reader.proofs.Places.{left}
use Rattle.reader.proofs.row.fill.Given as goal

abbrev pub start : Place → ℕ
start x = x.start

abbrev pub len : Place → ℤ
len x = x.length

abbrev pub invariant-loop-i : goal.invariant-loop-i
invariant-loop-i l =
    (sets l.starts l.i (left start l.frame (l.count - l.i) l.place) ≡ sets l.initial.starts 0 (left start l.frame l.count l.at))
    × (sets l.lengths l.i (left len l.frame (l.count - l.i) l.place) ≡ sets l.initial.lengths 0 (left len l.frame l.count l.at))
