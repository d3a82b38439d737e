-- The numbers that the builder's refusals have; and that whatever meets the statements gives the same answers and leaves the same room.
use Prim.Native.Nat.{ℕ, ◌+◌, ◌-◌}
use mathlib.Core.Bool.{Bool, true, false, cond, ◌&&◌}
use mathlib.Core.List.{List, []}
use mathlib.Core.Logic.{inl, inr}
use mathlib.Core.Path.{◌≡◌, refl, sym, ◌∙◌}
use lib.Dec.{ltb, eqb}
use lib.ListN.{length}
use Rattle.protocol.specs.Encoded as N
use Rattle.protocol.specs.Encoded.{Encoded}
use Rattle.protocol.specs.Answers.{refusal, Unsuccessful, of_encoded}
use Rattle.protocol.specs.Bytes.{Bytes, is_one_of}
use Rattle.protocol.specs.Fields.{value_bytes, most, signed_count}
use Rattle.protocol.specs.Kinds.{data_row}
use Rattle.protocol.specs.Refusals.{not_representable, no_such_element}
use Rattle.protocol.proofs.Basics.{zero_one}
use Rattle.row_builder.specs.Building.{stands, built_by, of_built, begin_of, grow_of, drop_of, finish_of}
use Rattle.row_builder.specs.Built as B
use Rattle.row_builder.specs.Built.{Built}
use Rattle.row_builder.specs.declared.Row.{Row}
use Rattle.writers.specs.Writing.{verdict_of}
use Rattle.laws.specs.BuilderStatements.{Outcome, Builder, Column, Stands, Standing, the_builder, BuildsAsEncoded, BuilderExactly, KeepsTheRoom, builder_numbers, BuilderNumbered, OneBuilder}
use Rattle.laws.specs.EncodeStatements.{the_encoder, encode_numbers}
use Rattle.laws.specs.Statements.{GivesNothing, IsNumbered}
use Rattle.laws.proofs.Answered.{built_refused}
use Rattle.laws.proofs.Building.{builds_as_encoded}
use Rattle.laws.proofs.BuilderExactly.{builder_exactly, keeps_the_room}
use Rattle.laws.proofs.Columns.{Ends, empty, last, ends}
use Rattle.laws.proofs.Encoding.{Says, ten, four, nine, done, judge_says}
use Rattle.laws.proofs.Numbered.{success_nothing, refusal_nothing, one_of_more}
use Rattle.laws.proofs.Only.{says_number}
use Rattle.laws.proofs.Standing.{standing, not_standing}

-- ---- the numbers of refusals

abbrev Known : Built → Type 0
Known b = (number place : ℕ) → b ≡ B.Refused number place → is_one_of number builder_numbers ≡ true

built_nothing : (b : Built) → GivesNothing (of_built b)
unfolding of_built
built_nothing (B.Is row) = success_nothing
built_nothing (B.Refused number place) = refusal_nothing number place

built_numbered : (b : Built) → Known b → IsNumbered builder_numbers (of_built b)
built_numbered b h = record { number = λ number place e. h number place (built_refused e); nothing = built_nothing b }

-- of a verdict
verdict_says : (able : Bool) (limit size uncounted room : ℕ) → Says (verdict_of able limit size uncounted room)
unfolding verdict_of
verdict_says able limit size uncounted room = judge_says able (ltb limit size) (ltb room (size + uncounted)) (size + uncounted)

verdict_known : (k : ℕ) (r : Encoded) → Says r → Known (built_by k r)
unfolding built_by is_one_of
verdict_known k r ten number place e = let q : 10 ≡ number = cc in rw (← q) refl
verdict_known k r four number place e = let q : 4 ≡ number = cc in rw (← q) refl
verdict_known k r nine number place e = let q : 9 ≡ number = cc in rw (← q) refl
verdict_known k r (done n) number place e = absurd (zero_one cc)

-- of dropping and finishing
drop_known : (t u : Bool) (next : Row) → Known (cond t (cond u (B.Refused no_such_element 0) (B.Is next)) (B.Refused not_representable 0))
unfolding is_one_of
drop_known false u next number place e = let q : 10 ≡ number = cc in rw (← q) refl
drop_known true true next number place e = let q : 11 ≡ number = cc in rw (← q) refl
drop_known true false next number place e = absurd (zero_one cc)

finish_says : (t : Bool) (n : ℕ) → Says (cond t (N.Done n) (N.Refused not_representable 0))
finish_says false n = ten
finish_says true n = done n

encoded_numbered : (r : Encoded) → Says r → IsNumbered builder_numbers (of_encoded r)
encoded_numbered r s =
    let h = (says_number r s).0 in
    record { number = λ number place e. one_of_more number encode_numbers _ (h.number number place e); nothing = h.nothing }

pub builder_numbered : (row : Row) (room : List ℕ) (c : Column) → BuilderNumbered the_builder row room c
unfolding begin_of grow_of drop_of finish_of
builder_numbered row room c = record {
  begin = built_numbered _ (verdict_known 0 _ (verdict_says true data_row.limit data_row.smallest 1 (length room)));
  append = built_numbered _
      (verdict_known (row.columns + 1) _ (verdict_says (stands row room && ltb row.columns (most signed_count)) data_row.limit (row.size - 1 + length (value_bytes c)) 1 (length room)));
  drop_last = built_numbered _ (drop_known (stands row room) (eqb row.columns 0) _);
  finish = encoded_numbered _ (finish_says (stands row room) row.size);
}

-- ---- one builder

same_outcome : {x y : Outcome} → x.answer ≡ y.answer → x.room ≡ y.room → x ≡ y
same_outcome e f = λ j. record { answer = e j; room = f j }

-- two outcomes that are refused alike, and leave the room
refused_alike : {x y : Outcome} {room : List ℕ} {number : ℕ} → of_built x.answer ≡ refusal number 0 → of_built y.answer ≡ refusal number 0
    → (Unsuccessful (of_built x.answer) → x.room ≡ room) → (Unsuccessful (of_built y.answer) → y.room ≡ room) → x ≡ y
refused_alike {number = number} e f k l = same_outcome (built_refused e ∙ sym (built_refused f)) (k (inr (number, 0, e)) ∙ sym (l (inr (number, 0, f))))

module _ (other : Builder) (builds : BuildsAsEncoded other the_encoder) (exactly : BuilderExactly other) (keeps : KeepsTheRoom other)
    (row : Row) (room : List ℕ) (c : Column) (b : Bytes room) where
  same_append : (t : Bool) → stands row room ≡ t → other.append row c room ≡ the_builder.append row c room
  same_append true e =
      let s = standing row room b e in
      builds.appends row room s.0 c s.1 ∙ sym (builds_as_encoded.appends row room s.0 c s.1)
  same_append false e =
      let n = inl (not_standing row room e) in
      refused_alike ((exactly row room c b).append_ten.1 n) ((builder_exactly row room c b).append_ten.1 n) (keeps.append row c room) (keeps_the_room.append row c room)

  drop_last_lem : {cs : List Column} → Ends cs → Stands row room cs → other.drop_last row room ≡ the_builder.drop_last row room
  drop_last_lem empty s =
      let n : Standing row room × (row.columns ≡ 0) = (([], s), s.columns) in
      refused_alike ((exactly row room c b).drop_eleven.1 n) ((builder_exactly row room c b).drop_eleven.1 n) (keeps.drop_last row room) (keeps_the_room.drop_last row room)
  drop_last_lem (last cs d) s = builds.drops row room cs d s ∙ sym (builds_as_encoded.drops row room cs d s)

  same_drop : (t : Bool) → stands row room ≡ t → other.drop_last row room ≡ the_builder.drop_last row room
  same_drop true e = let s = standing row room b e in drop_last_lem (ends s.0) s.1
  same_drop false e =
      let n = not_standing row room e in
      refused_alike ((exactly row room c b).drop_ten.1 n) ((builder_exactly row room c b).drop_ten.1 n) (keeps.drop_last row room) (keeps_the_room.drop_last row room)

  same_finish : (t : Bool) → stands row room ≡ t → of_encoded (other.finish row room) ≡ of_encoded (the_builder.finish row room)
  same_finish true e =
      let s : Standing row room × (row.size ≡ row.size) = (standing row room b e, refl) in
      ((exactly row room c b).finished row.size).1 s ∙ sym (((builder_exactly row room c b).finished row.size).1 s)
  same_finish false e =
      let n = not_standing row room e in
      (exactly row room c b).finish_ten.1 n ∙ sym ((builder_exactly row room c b).finish_ten.1 n)

pub one_builder : OneBuilder the_builder the_encoder
one_builder other builds exactly keeps row room c b = (
  builds.begins room ∙ sym (builds_as_encoded.begins room),
  same_append other builds exactly keeps row room c b (stands row room) refl,
  same_drop other builds exactly keeps row room c b (stands row room) refl,
  same_finish other builds exactly keeps row room c b (stands row room) refl,
)
