-- What is known of the row that a call answers, and of the room that it leaves.
use Prim.Native.Nat.{ℕ, ◌+◌, ◌-◌, ◌≤◌, ◌<◌}
use mathlib.Core.Bool.{true, ◌&&◌}
use mathlib.Core.List.{List}
use mathlib.Core.Option.{some, none}
use mathlib.Core.Path.{◌≡◌, refl, ap, sym, ◌∙◌}
use native.Mathlib.Omega.{arith}
use borrow.Author.Tests.{ltb-true}
use lib.Dec.{ltb, eqb}
use lib.ListN.{length, take, length-append}
use lib.Seq.{length-take-le}
use Rattle.protocol.specs.Encoded as N
use Rattle.protocol.specs.Encoded.{Encoded}
use Rattle.protocol.specs.Fields.{most, signed_count, value_bytes}
use Rattle.protocol.specs.Kinds.{data_row, large_frame, nullable}
use Rattle.protocol.specs.Reading.{pass_items}
use Rattle.protocol.specs.Rules.{rules_of}
use Rattle.protocol.proofs.Basics.{and_left, and_right, first_chosen, second_chosen, length-be, zero_one}
use Rattle.writers.specs.Writing.{Put, Wrote, write, verdict_of}
use Rattle.writers.proofs.Encoding.{room_by}
use Rattle.writers.proofs.Puts.{same_size}
use Rattle.row_builder.specs.Building.{begin_of, built_by, columns_end, drop_of, grow_of, head_of, left_by, place_of, stands}
use Rattle.row_builder.specs.Built as B
use Rattle.row_builder.specs.Built.{Built}
use Rattle.row_builder.specs.declared.Row.{Row}
use Rattle.row_builder.proofs.Standing.{Fits, fits}
use Rattle.row_builder.proofs.Walks.{pass_within}

is_refused : {row : Row} {number place : ℕ} → B.Is row ≡ B.Refused number place → ⊥
is_refused e = zero_one cc

refused_is : {row : Row} {number place : ℕ} → B.Refused number place ≡ B.Is row → ⊥
refused_is e = zero_one cc

-- ---- a row that a call answers fits into the room

built_is : (columns : ℕ) (e : Encoded) (next : Row) → built_by columns e ≡ B.Is next → (e ≡ N.Done next.size) × (next.columns ≡ columns)
unfolding built_by
built_is columns (N.Done size) next h =
    let is : ◌≡◌ {A = Row} (record { columns = columns; size = size }) next = cc in
    (ap (λ (r : Row). N.Done r.size) is, sym (ap (λ (r : Row). r.columns) is))
built_is columns (N.Refused number place) next h = absurd (refused_is h)

-- an empty row
pub begins : (room : List ℕ) {e : Encoded} → e ≡ verdict_of true 1048576 6 1 (length room) → built_by 0 e ≡ begin_of room
unfolding begin_of data_row
begins room e = ap (built_by 0) e

pub begun_is : (room : List ℕ) (next : Row) → begin_of room ≡ B.Is next → Fits next room
unfolding begin_of verdict_of data_row
begun_is room next e =
    let b = built_is 0 _ next e in
    let v = room_by 1048576 6 7 (length room) next.size true b.0 in
    record { some = omega (arith, v.1); within = omega (arith, v.1, v.3); small = omega (arith, v.1); few = omega (arith, b.1) }

-- a row with one column more, of n bytes
pub record Grown (row : Row) (n : ℕ) (room : List ℕ) (next : Row) : Type 0 where
  pub old : Fits row room
  pub size : next.size ≡ row.size + n
  pub fits : Fits next room

pub grown_is : (row : Row) (n : ℕ) (room : List ℕ) (next : Row) → grow_of row n room ≡ B.Is next → Grown row n room next
unfolding grow_of verdict_of data_row
grown_is row n room next e =
    let b = built_is (row.columns + 1) _ next e in
    let able = stands row room && ltb row.columns (most signed_count) in
    let v = room_by 1048576 (row.size - 1 + n) (row.size - 1 + n + 1) (length room) next.size able b.0 in
    let old = fits row room (and_left _ _ v.0) in
    let few : row.columns < most signed_count = ltb-true _ _ (and_right (stands row room) v.0) in
    let size : next.size ≡ row.size + n = omega (arith, v.1, old.some) in
    record {
      old = old;
      size = size;
      fits = record { some = omega (arith, old.some); within = omega (arith, v.1, v.3); small = omega (arith, v.1, v.2); few = omega (arith, b.1) };
    }

-- its last column is written: then its head may be
module _ {row next : Row} {n at : ℕ} {room mid xs : List ℕ} (g : Grown row n room next) (w : Put true room row.size xs n mid at) where
  wrote : Wrote room row.size xs n mid at
  wrote = w.fits refl (omega (arith, g.size, g.fits.within))

  pub column : mid ≡ write room row.size xs
  column = wrote.bytes

  pub head_fits : (7 ≤ next.size) × (next.size ≤ length mid) × (next.size ≤ large_frame) × (next.columns ≤ most signed_count)
  head_fits = let f = g.fits in (f.some, omega (arith, f.within, same_size wrote), f.small, f.few)

-- a value, or NULL
pub value_long : (s : List ℕ) → length (value_bytes (some s)) ≡ 4 + length s
unfolding value_bytes
value_long s = simp (length-append, length-be) refl

pub null_long : length (value_bytes none) ≡ 4
unfolding value_bytes
null_long = simp length-be refl

-- a row with one column fewer
pub dropped_is : (row : Row) (room : List ℕ) (next : Row) → drop_of row room ≡ B.Is next → Fits next room
unfolding drop_of columns_end
dropped_is row room next e =
    let a = first_chosen (stands row room) refused_is e in
    let b = second_chosen (eqb row.columns 0) refused_is a.1 in
    let old = fits row room a.0 in
    let f = take row.size room in
    let long : length f ≡ row.size = length-take-le _ _ old.within in
    let walk = pass_within (rules_of 1) f (row.columns - 1) 7 (omega (arith, old.some)) in
    let made = b.1 in
    let is : ◌≡◌ {A = Row} (record { columns = row.columns - 1; size = columns_end (row.columns - 1) f }) next = cc in
    let size : place_of (pass_items (rules_of 1) nullable (row.columns - 1) f 7) ≡ next.size = ap (λ (r : Row). r.size) is in
    let columns : row.columns - 1 ≡ next.columns = ap (λ (r : Row). r.columns) is in
    record {
      some = omega (arith, walk.0);
      within = omega (arith, walk.1, old.within);
      small = omega (arith, walk.1, old.small);
      few = omega (arith, old.few);
    }

-- ---- the room

pub refused : {definition : Built} {number place : ℕ} (p : ℕ) (xs room : List ℕ) → B.Refused number place ≡ definition
    → (B.Refused number place ≡ definition) × (room ≡ left_by (B.Refused number place) p xs room)
unfolding left_by
refused p xs room e = (e, refl)

pub done : {definition : Built} {next : Row} {mid out : List ℕ} (p : ℕ) (xs room : List ℕ) → B.Is next ≡ definition
    → mid ≡ write room p xs → out ≡ write mid 0 (head_of next) → (B.Is next ≡ definition) × (out ≡ left_by (B.Is next) p xs room)
unfolding left_by
done {next = next} p xs room e first second = (e, second ∙ ap (λ (m : List ℕ). write m 0 (head_of next)) first)
