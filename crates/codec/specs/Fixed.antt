-- A list whose elements all have one size, read without looking at them.
use Rattle.std.specs.Prelude.{ℕ, ◌+◌, ◌*◌, List}
use Rattle.protocol.specs.declared.List.{List as ListSlot}
use Rattle.protocol.specs.Fields.{Count}
use Rattle.protocol.specs.Reading.{Read, got, and_then, read_count}

unfoldable pub read_fixed : Count → ℕ → List ℕ → ℕ → Read ListSlot
read_fixed k size f p = and_then (read_count k size f p) (λ l q. got l (q + l.count * size))
