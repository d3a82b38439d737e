-- The tables of kinds as the code holds them, a line for each row, for a person to check by eye: name, what tells the kind, smallest length, limit, number.
use Prim.Native.Char.{code}
use Rattle.std.specs.Prelude.{ℕ, zero, suc, cond, List, [], ◌∷◌, map, eqb, get_or}
use Prim.Native.String.{String, [] as end, ◌∷◌ as ◌then◌}
use Rattle.std.specs.Prelude.{Option as Maybe, Some, None}
use Rattle.std.proofs.Math.Option.{Option, some, none}
use Rattle.protocol.specs.declared.Rules.{Rules}
use Rattle.protocol.specs.declared.kinds.Line.{Line}
use Rattle.protocol.specs.Kinds.{Kind, Mode, mode_of}
use Rattle.protocol.specs.Views.{kind_number}

-- a name in n letters: its own, and spaces
abbrev pub filled : ℕ → String → List ℕ
filled zero name = []
filled (suc n) end = code " " ∷ filled n end
filled (suc n) (c then name) = code c ∷ filled n name

-- how many letters stand before the first space
unfoldable pub letters_in : List ℕ → ℕ
letters_in [] = 0
letters_in (c ∷ cs) = cond (eqb c (code " ")) 0 (suc (letters_in cs))

abbrev pub line_of : Kind → Line
line_of k = record { 0 = filled 20 k.name; 1 = k.tag; 2 = k.smallest; 3 = k.limit; 4 = kind_number k }

-- a mode's table, in the order of its rows
abbrev pub lines_of : Mode → List Line
lines_of m = map line_of m.kinds

-- what stands behind the last line: no kind has the number 0
abbrev pub no_kind : Line
no_kind = record { 0 = filled 20 ""; 1 = 0; 2 = 0; 3 = 0; 4 = 0 }

-- the line at a place of a table
abbrev pub line_in : List Line → ℕ → Line
line_in ls i = get_or ls i no_kind

-- a mode's table, which an unknown mode does not have
abbrev lines_by : Option Mode → List Line
lines_by none = []
lines_by (some m) = lines_of m

abbrev pub table_of : Rules → List Line
table_of rules = lines_by (mode_of rules)

unfoldable pub line_at : Rules → ℕ → Line
line_at rules i = line_in (table_of rules) i

-- what the code answers of a line, in which none is what stands behind the last
abbrev pub lined : Maybe Line → Line
lined (Some l) = l
lined None = no_kind
