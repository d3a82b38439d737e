-- What every row of the table is like, so far as laws of reading and writing ask: one computed test over all rows.
use Prim.Native.Nat.{ℕ, ◌/◌, ◌^◌, ◌<◌}
use mathlib.Core.Bool.{Bool, true, ◌&&◌}
use mathlib.Core.Path.{◌≡◌}
use lib.Dec.{T, ltb, ltb→lt, eqb, eqb→eq}
use Rattle.protocol.specs.Each.{least_of_each}
use Rattle.protocol.specs.Fields.{item_least}
use Rattle.protocol.specs.Kinds.{Envelope, typed, untyped, bare, Kind, Mode, modes, IsIn}
use Rattle.protocol.proofs.Find.{every, every_in}
use Rattle.protocol.specs.Kinds.{the_table}
use Rattle.protocol.proofs.Basics.{left_holds, right_holds}
use Rattle.laws.proofs.Bodies.{sane_field, rest_last}

-- how many bytes a tag has
abbrev pub tag_width : Envelope → ℕ
tag_width typed = 1
tag_width untyped = 4
tag_width bare = 1

-- a bare frame has no length word: its only byte is its length
abbrev pub Alone : Envelope → Kind → Type 0
Alone typed k = Unit {0}
Alone untyped k = Unit {0}
Alone bare k = k.limit ≡ 1

abbrev alone : Envelope → Kind → Bool
alone typed k = true
alone untyped k = true
alone bare k = eqb k.limit 1

-- a tag that its bytes can tell, lengths that a signed word can tell, and fields as the laws of bodies ask
pub record Sane (e : Envelope) (k : Kind) : Type 0 where
  pub tag : k.tag < 256 ^ tag_width e
  pub limit : k.limit < 256 ^ 4 / 2
  pub fields : T (every sane_field k.body)
  pub last : T (rest_last k.body)
  pub alone : Alone e k

abbrev sane_header : Envelope → Kind → Bool
sane_header e k = ltb k.tag (256 ^ tag_width e) && ltb k.limit (256 ^ 4 / 2)

abbrev sane_body : Kind → Bool
sane_body k = every sane_field k.body && rest_last k.body

abbrev sane_kind : Envelope → Kind → Bool
sane_kind e k = (sane_header e k && alone e k) && sane_body k

abbrev sane_mode : Mode → Bool
sane_mode m = every (sane_kind m.envelope) m.kinds

all_sane : T (every sane_mode modes)
unfolding the_table least_of_each item_least
all_sane = tt

is_alone : (e : Envelope) (k : Kind) → T (alone e k) → Alone e k
is_alone typed k t = tt
is_alone untyped k t = tt
is_alone bare k t = eqb→eq _ _ t

sane_by : (e : Envelope) (k : Kind) → T (sane_kind e k) → Sane e k
sane_by e k t =
    let outer = left_holds (sane_header e k && alone e k) (sane_body k) t in
    let header = left_holds (sane_header e k) (alone e k) outer in
    let body = right_holds (sane_header e k && alone e k) (sane_body k) t in
    record {
      tag = ltb→lt _ _ (left_holds (ltb k.tag (256 ^ tag_width e)) (ltb k.limit (256 ^ 4 / 2)) header);
      limit = ltb→lt _ _ (right_holds (ltb k.tag (256 ^ tag_width e)) (ltb k.limit (256 ^ 4 / 2)) header);
      alone = is_alone e k (right_holds (sane_header e k) (alone e k) outer);
      fields = left_holds (every sane_field k.body) (rest_last k.body) body;
      last = right_holds (every sane_field k.body) (rest_last k.body) body;
    }

pub row_sane : (m : Mode) → IsIn m modes → (k : Kind) → IsIn k m.kinds → Sane m.envelope k
row_sane m i k j = sane_by m.envelope k (every_in (sane_kind m.envelope) m.kinds (every_in sane_mode modes all_sane m i) k j)
