-- Every row of the table of kinds can be asked for at the boundary: one test over all rows.
use mathlib.Core.Bool.{true}
use mathlib.Core.Path.{◌≡◌}
use Rattle.protocol.specs.Bytes.{is_one_of}
use Rattle.protocol.specs.Kinds.{Kind, Mode, modes, the_table}
use Rattle.protocol.specs.Views.{kind_number}
use Rattle.protocol.proofs.Find.{All, in_all}
use Rattle.host.specs.Asked.{asked_numbers, EveryKindAsked}

abbrev IsAsked : Kind → Type 0
IsAsked k = is_one_of (kind_number k) asked_numbers ≡ true

all_asked : All (λ (m : Mode). All IsAsked m.kinds) modes
unfolding the_table is_one_of
all_asked = search tt depth 60 fits 5000

pub every_kind : EveryKindAsked
every_kind m i k j = in_all IsAsked m.kinds (in_all (λ (m : Mode). All IsAsked m.kinds) modes all_asked m i) k j
