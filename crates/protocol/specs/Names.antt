-- The name of each kind (docs/FORMAT.md 4): the Rust's type name.
use Prim.Native.Char.{code}
use Rattle.std.specs.Prelude.{ℕ, List, [], ◌∷◌}
use Prim.Native.String.{String, [] as end, ◌∷◌ as ◌then◌}
use Rattle.protocol.specs.declared.Message.{Message}
use Rattle.protocol.specs.Views.{view}

abbrev pub name_of : Message → String
name_of m = (view m).kind.name

-- a text's letters, a byte each
abbrev pub letters_of : String → List ℕ
letters_of end = []
letters_of (c then s) = code c ∷ letters_of s
