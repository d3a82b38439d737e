-- The arms of a `match` on a message that answers its name.
use Prim.Native.Nat.{ℕ}
use mathlib.Core.Bool.{Bool, true, false, not, ◌&&◌, ◌||◌}
use mathlib.Core.List.{List}
use mathlib.Core.Path.{◌≡◌}
use denote.Enum.Declared.{tag_of}
use lib.Dec.{T, eqb}
use types.Run.{OneOf}
use Rattle.protocol.specs.declared.Message.{Message}
use Rattle.protocol.specs.Kinds.{Kind, Mode, modes, find, the_table}
use Rattle.protocol.specs.Lines.{filled}
use Rattle.protocol.specs.Names.{name_of}
use Rattle.protocol.specs.Views.{view, kind_number, numbered}
use Rattle.protocol.proofs.Find.{All}
use Rattle.protocol.proofs.Lines.{same, same_is}
use Rattle.protocol.specs.contracts.Message as Msg
use Rattle.protocol.proofs.Views.{each_row, places, Placed, passes}
use Rattle.listing.specs.Names.{holds_nothing}

-- told by the arm which kind it is
pub arm : {m k : Message} {name : List ℕ} → m ≡ k → name ≡ filled 20 (name_of k) → name ≡ filled 20 (name_of m)
arm e n = rw e n

-- what is left to the last arm where each kind with fields has its own
empty_placed : All (λ (m : Mode). All (Placed holds_nothing) m.kinds) modes
unfolding the_table find numbered
empty_placed = search tt depth 60 fits 5000

pub left_empty : (m : Message) → OneOf (places holds_nothing) (tag_of Msg.the_type m) → T (holds_nothing (view m).kind)
left_empty m h = passes holds_nothing empty_placed m h

-- and of these, where each but the last has its own
abbrev last_left : Kind → Bool
last_left k = not (holds_nothing k) || eqb (kind_number k) 35

abbrev last_named : Kind → Type 0
last_named k = T (not (holds_nothing k && last_left k) || same (filled 20 "Terminate") (filled 20 k.name))

all_last_named : All (λ (m : Mode). All last_named m.kinds) modes
unfolding the_table
all_last_named = search tt depth 60 fits 5000

pub left_last : (m : Message) → T (holds_nothing (view m).kind) → OneOf (places last_left) (tag_of Msg.the_type m) → filled 20 "Terminate" ≡ filled 20 (name_of m)
unfolding the_table find numbered
left_last m own h =
    same_is _ _ (by (holds_nothing (view m).kind) (last_left (view m).kind) _ own (passes last_left (search tt depth 60 fits 5000) m h) (each_row last_named all_last_named m))
  where
    by : (a b t : Bool) → T a → T b → T (not (a && b) || t) → T t
    by true true t ha hb h = h
    by true false t ha hb h = absurd hb
    by false b t ha hb h = absurd ha
