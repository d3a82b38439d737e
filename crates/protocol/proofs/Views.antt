-- A message that a row makes is viewed as that row, with what it was made of; and every message is made by the row that it is viewed as. So what holds
-- of each row holds of every message's row: one test over all rows.
use Prim.Native.Nat.{ℕ, zero, suc}
use mathlib.Core.Bool.{Bool, true, false, not, cond, ◌||◌}
use mathlib.Core.List.{List, [], ◌∷◌}
use mathlib.Core.Option.{Option, some, none}
use mathlib.Core.Path.{◌≡◌, refl}
use denote.Enum.Declared.{tag_of}
use lib.Dec.{T}
use lib.ListN.{length}
use mir.Val.{has_key}
use types.Run.{OneOf, miss}
use Rattle.protocol.specs.declared.Message.TheVariants as M
use Rattle.protocol.specs.declared.Message.{Message}
use Rattle.protocol.specs.declared.response.GssEncResponse.TheVariants as Gss
use Rattle.protocol.specs.declared.response.SslResponse.TheVariants as Ssl
use Rattle.protocol.specs.Each.{Each}
use Rattle.protocol.specs.Fields.{Slot}
use Rattle.protocol.specs.Kinds.{Kind, Mode, modes, find, mode_of, kind_in, the_table}
use Rattle.protocol.specs.Rules.{rules_of}
use Rattle.protocol.specs.Views.{IsShown, shown, view, rows, numbered}
use Rattle.protocol.proofs.Find.{All, told_row}
use Rattle.protocol.specs.contracts.Message as Msg

abbrev pub Viewed : Kind → Type 0
Viewed k = (s : Each Slot k.body) → view (k.message s) ≡ record { kind = k; slots = s }

-- of each row: `told_row` carries it to the kind that a tag tells
pub viewed : All (λ (m : Mode). All Viewed m.kinds) modes
unfolding the_table view
viewed = search tt depth 60 fits 5000

-- the law of each message's view
pub is_shown : (m : Message) → IsShown m (shown m)
unfolding shown the_table find mode_of kind_in
is_shown (M.SslResponse Ssl.Accept) = record { known = refl; row = refl; back = refl }
is_shown (M.SslResponse Ssl.Refuse) = record { known = refl; row = refl; back = refl }
is_shown (M.GssEncResponse Gss.Accept) = record { known = refl; row = refl; back = refl }
is_shown (M.GssEncResponse Gss.Refuse) = record { known = refl; row = refl; back = refl }
is_shown m = record { known = refl; row = refl; back = refl }

-- a message is made by its row
pub made : (m : Message) → (view m).kind.message (view m).slots ≡ m
unfolding view
made m = (is_shown m).back

-- what holds of each row holds of a message's
pub each_row : (P : Kind → Type 0) → All (λ (m : Mode). All P m.kinds) modes → (m : Message) → P (view m).kind
unfolding view
each_row P h m =
    let r = shown m in
    let is = is_shown m in
    told_row P h (rules_of r.mode.mode) r.view.kind.tag is.known is.row

-- ---- the last arm of a `match` on a message, which is told the places of the variants that are left

-- the places of the kinds that pass a test: the variants of `Message` stand in the order of the kinds' numbers, which begin at 1
abbrev place_of : (Kind → Bool) → Option Kind → ℕ → List ℕ → List ℕ
place_of test none n later = []
place_of test (some k) n later = cond (test k) (n ∷ later) later

abbrev places_from : (Kind → Bool) → ℕ → ℕ → List ℕ
places_from test zero n = []
places_from test (suc turns) n = place_of test (numbered (suc n)) n (places_from test turns (suc n))

abbrev pub places : (Kind → Bool) → List ℕ
places test = places_from test (length rows) 0

-- what holds if x is one of some numbers, which it is
if_key : (ts : List ℕ) (x : ℕ) (t : Bool) → OneOf ts x → T (not (has_key ts x) || t) → T t
if_key ts x t is h = by (has_key ts x) (miss ts x) h
  where
    by : (has : Bool) → (T (not has) → OneOf ts x → ⊥) → T (not has || t) → T t
    by true missed h = h
    by false missed h = absurd (missed tt is)

-- a row is at one of these places only if it passes the test
abbrev pub Placed : (Kind → Bool) → Kind → Type 0
Placed test k = (s : Each Slot k.body) → T (not (has_key (places test) (tag_of Msg.the_type (k.message s))) || test k)

-- so a message that is at one of these places has a row that passes
pub passes : (test : Kind → Bool) → All (λ (m : Mode). All (Placed test) m.kinds) modes → (m : Message) → OneOf (places test) (tag_of Msg.the_type m) → T (test (view m).kind)
passes test h m is =
    let placed = each_row (Placed test) h m (view m).slots in
    if_key (places test) (tag_of Msg.the_type m) (test (view m).kind) is (rw (made m) at placed)
