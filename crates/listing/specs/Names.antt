-- Which kinds have their names by which function.
use Rattle.std.specs.Prelude.{Bool, true, false, ◌&&◌, List, [], ◌∷◌}
use Rattle.protocol.specs.Kinds.{Kind}

abbrev none : {A : Type 0} → List A → Bool
none [] = true
none (x ∷ xs) = false

abbrev one : {A : Type 0} → List A → Bool
one [] = false
one (x ∷ xs) = none xs

-- a kind whose record holds nothing: it has no field, and no number behind the kind's own, as an answer has
abbrev pub holds_nothing : Kind → Bool
holds_nothing k = none k.body && one k.numbers
