-- What decoding the room says of a row, by the steps of the code; and what is known where the room begins with it.
use Prim.Native.Nat.{ℕ, suc, ◌+◌, ◌-◌, ◌≤◌, ◌<◌, ◌/◌, ◌^◌}
use mathlib.Core.Bool.{Bool, true, false, cond, ◌&&◌, and-false, false≢true}
use mathlib.Core.List.{List, [], ◌∷◌}
use mathlib.Core.Option.{Option, some, none}
use mathlib.Core.Path.{◌≡◌, refl, ap, sym, ◌∙◌}
use native.Mathlib.Omega.{arith}
use borrow.Author.Tests.{ltb-true, ltb-false, eqb-true, eqb-false, ne_eqb}
use lib.Dec.{ltb, eqb}
use lib.IntN.{ℤ, pos, negsuc}
use lib.ListN.{length, take}
use lib.Seq.{length-take-le}
use Rattle.protocol.specs.declared.List.{List as ListSlot}
use Rattle.protocol.specs.declared.Message.TheVariants as M
use Rattle.protocol.specs.declared.Message.{Message}
use Rattle.protocol.specs.declared.data.DataRow.{DataRow}
use Rattle.protocol.specs.Bytes.{signed_of}
use Rattle.protocol.specs.Decode.{Header, more, refuse, framed, tag_at, header_of, closed, decoded_by, decode_by, decode_of}
use Rattle.protocol.specs.Each.{Each, least_of_each}
use Rattle.protocol.specs.Fields.{Slot, item_least, most, signed_count}
use Rattle.protocol.specs.Kinds.{typed, Kind, backend, data_row, find, kind_in, large_frame, mode_of, nullable, the_table, values}
use Rattle.protocol.specs.Lines.{line_of}
use Rattle.protocol.specs.Reading.{Read, got, bad, and_then, read, read_each, pass_items, read_count, read_counted}
use Rattle.protocol.specs.Refusals.{bytes_left}
use Rattle.protocol.specs.Rules.{rules_of}
use Rattle.protocol.specs.Views.{View, view}
use Rattle.protocol.proofs.Basics.{and_left, and_right, negsuc-pos, none-some, second_chosen, zero_one}
use Rattle.protocol.proofs.Counts.{counted_is}
use Rattle.protocol.proofs.Find.{told_row}
use Rattle.protocol.proofs.Framed.{Framed, framed_is}
use Rattle.protocol.proofs.Numbers.{whole}
use Rattle.protocol.proofs.Views.{Viewed, viewed}
use Rattle.decode.proofs.Choices.{arm, in_mode}
use Rattle.envelope.specs.Steps.{end_of, end_in, left_of, framed_by}
use Rattle.envelope.specs.Header as H
use Rattle.envelope.specs.Header.{Header as End}
use Rattle.envelope.proofs.Points.{ends, made_as}
use Rattle.reader.specs.Row.{row_in}
use Rattle.reader.proofs.RowRoom.{data-row, row_in_lem}
use Rattle.row_builder.specs.Building.{has_count, is_of, stands}
use Rattle.row_builder.specs.Steps.{count_is, ends_at, headed}
use Rattle.row_builder.specs.declared.Row.{Row}
use Rattle.row_builder.proofs.Walks.{pass_within}

-- the walk over that many columns ends where the frame does
abbrev pub at_end : ℕ → Read (Unit {0}) → Bool
at_end size (got _ next) = eqb next size
at_end size (bad number place) = false

abbrev pub walk : ℕ → List ℕ → Read (Unit {0})
walk n f = pass_items (rules_of 1) nullable n f 7

-- ---- the type byte of a row

only : {A : Type 0} {x y : A} → some x ≡ some y → x ≡ y
only e = cc

in_backend : mode_of (rules_of 1) ≡ some backend
unfolding the_table find mode_of
in_backend = refl

-- what is found has the key
module _ {A : Type 0} (key : A → ℕ) (n : ℕ) (y : A) where
  key_by : (x : A) (o : Option A) (t : Bool) → eqb n (key x) ≡ t → (o ≡ some y → n ≡ key y) → cond t (some x) o ≡ some y → n ≡ key y
  key_by x o true e later h = eqb-true _ _ e ∙ ap key (only h)
  key_by x o false e later h = later h

  find-key : (xs : List A) → find key n xs ≡ some y → n ≡ key y
  unfolding find
  find-key [] h = absurd (none-some h)
  find-key (x ∷ xs) h = key_by x (find key n xs) (eqb n (key x)) refl (find-key xs) h

-- a kind that makes a row is a row's
row_kind : (k : Kind) (v : Each Slot k.body) (r : DataRow) → Viewed k → k.message v ≡ M.DataRow r → k ≡ data_row
unfolding view
row_kind k v r is m = sym (ap (λ (x : View). x.kind) (is v)) ∙ ap (λ (x : Message). (view x).kind) m

module _ (row : Row) (room : List ℕ) where
  module _ (k : Kind) (a b : ℕ) (w : Framed (rules_of 1) room k a b) where
    tag_is : k ≡ data_row → tag_at typed room ≡ data_row.tag
    unfolding backend kind_in
    tag_is is =
        let mode : w.mode ≡ backend = only (sym w.known ∙ in_backend) in
        let found : kind_in backend (tag_at typed room) ≡ some k = rw mode at w.tag in
        find-key (λ (k : Kind). k.tag) (tag_at typed room) k backend.kinds found ∙ ap (λ (k : Kind). k.tag) is

    by_list : (v : Each Slot k.body) (o : Option ListSlot) → row_in (k.message v) ≡ o → has_count row.columns o && eqb b row.size ≡ true → tag_at typed room ≡ data_row.tag
    by_list v none o e = absurd (false≢true e)
    by_list v (some l) o e =
        let d = data-row (k.message v) l o in
        tag_is (row_kind k v d.0 (told_row Viewed viewed (rules_of 1) _ w.known w.tag) d.1)

    by_end : (v : Each Slot k.body) (q : ℕ) (t : Bool) → is_of row (decoded_by (cond t (bad bytes_left q) (got (k.message v) q)) b) ≡ true → tag_at typed room ≡ data_row.tag
    unfolding is_of decoded_by
    by_end v q true e = absurd (false≢true e)
    by_end v q false e = by_list v (row_in (k.message v)) refl e

    by_body : (r : Read (Each Slot k.body)) → is_of row (decoded_by (and_then r (λ v q. closed (take b room) q (k.message v))) b) ≡ true → tag_at typed room ≡ data_row.tag
    unfolding is_of decoded_by closed
    by_body (got v q) e = by_end v q (ltb q (length (take b room))) e
    by_body (bad number place) e = absurd (false≢true e)

  by_header : (h : Header) → header_of (rules_of 1) room ≡ h → is_of row (decode_by (rules_of 1) room h) ≡ true → tag_at typed room ≡ data_row.tag
  unfolding is_of decode_by
  by_header more q e = absurd (false≢true e)
  by_header (refuse number place) q e = absurd (false≢true e)
  by_header (framed k a b) q e = by_body k a b (framed_is (rules_of 1) room k a b q) (read_each (read (rules_of 1)) k.body (take b room) a) e

  row-tag : stands row room ≡ true → tag_at typed room ≡ data_row.tag
  unfolding stands decode_of
  row-tag e = by_header (header_of (rules_of 1) room) refl e

-- ---- decoding a room with that byte

as_row : (room : List ℕ) → tag_at typed room ≡ data_row.tag
    → decode_of (rules_of 1) room ≡ framed_by (end_in typed (line_of data_row) room) room (λ f. left_of (rules_of 1) data_row.body data_row.message f 5)
unfolding the_table find kind_in
as_row room e =
    sym (in_mode (rules_of 1) room backend in_backend) ∙ sym (arm (rules_of 1) room backend refl e) ∙ sym (made_as (rules_of 1) typed data_row room)

module _ (row : Row) where
  -- a frame of another size
  other_size : (r : Read Message) (n : ℕ) → eqb n row.size ≡ false → is_of row (decoded_by r n) ≡ false
  unfolding is_of decoded_by
  other_size (got m next) n e = rw e (and-false (has_count row.columns (row_in m)))
  other_size (bad number place) n e = refl

  module _ (f : List ℕ) (long : length f ≡ row.size) (seven : 7 ≤ length f) where
    -- a walk that the row's count is not asked of
    same_walk : (n m : ℕ) (r : Read (Unit {0})) → walk n f ≡ r → eqb n m && at_end row.size r ≡ eqb n m && at_end row.size (walk m f)
    same_walk n m r e = by (eqb n m) refl
      where
        by : (t : Bool) → eqb n m ≡ t → t && at_end row.size r ≡ t && at_end row.size (walk m f)
        by true t = sym (ap (λ (i : ℕ). at_end row.size (walk i f)) (sym (eqb-true n m t)) ∙ ap (at_end row.size) e)
        by false t = refl

    -- behind the columns of the list l
    closed_by : (l : ListSlot) (e : ℕ) → e ≤ length f → (t : Bool) → ltb e (length f) ≡ t
        → is_of row (decoded_by (cond t (bad bytes_left e) (got (M.DataRow (record { «data» = l })) e)) (length f)) ≡ eqb l.count row.columns && eqb e row.size
    unfolding is_of decoded_by
    closed_by l e h true t =
        let less : e < length f = ltb-true _ _ t in
        rw (ne_eqb e row.size (λ q. omega arith), and-false (eqb l.count row.columns)) refl
    closed_by l e h false t =
        let above : length f ≤ e = ltb-false _ _ t in
        let same : length f ≡ e = omega arith in
        rw (row_in_lem, same) refl

    walk_by_lem : (l : ListSlot) (r : Read (Unit {0})) → walk l.count f ≡ r
        → is_of row (decoded_by (and_then r (λ _ e. closed f e (M.DataRow (record { «data» = l })))) (length f)) ≡ eqb l.count row.columns && at_end row.size r
    unfolding closed is_of decoded_by
    walk_by_lem l (got t e) is = closed_by l e (rw is at (pass_within (rules_of 1) f l.count 7 seven)).1 (ltb e (length f)) refl
    walk_by_lem l (bad number place) is = sym (and-false (eqb l.count row.columns))

    -- the count, and then the columns
    count_by : (r : Read ListSlot) → read_count signed_count 4 f 5 ≡ r
        → is_of row (decoded_by (and_then (and_then r (λ l q. and_then (pass_items (rules_of 1) nullable l.count f q) (λ _ e. got l e))) (λ l e. closed f e (M.DataRow (record { «data» = l })))) (length f))
        ≡ count_is row.columns r && at_end row.size (walk row.columns f)
    unfolding is_of decoded_by
    count_by (bad number place) is = refl
    count_by (got l q) is =
        let w = counted_is signed_count 4 f 5 q l is in
        let seventh : q ≡ 7 = (whole 2 f 5 w.bits q w.number).next in
        rw seventh (by (walk l.count f) refl) ∙ same_walk l.count row.columns (walk l.count f) refl
      where
        by : (r : Read (Unit {0})) → walk l.count f ≡ r
            → is_of row (decoded_by (and_then (and_then r (λ _ e. got l e)) (λ l e. closed f e (M.DataRow (record { «data» = l })))) (length f)) ≡ eqb l.count row.columns && at_end row.size r
        by (got t e) h = walk_by_lem l (got t e) h
        by (bad number place) h = walk_by_lem l (bad number place) h

    -- the one field of a row's body
    one_by : (r : Read ListSlot)
        → is_of row (decoded_by (and_then {X = Each Slot (values signed_count ∷ [])} (and_then r (λ l q. got (record { 0 = l; 1 = tt }) q)) (λ v q. closed f q (M.DataRow (record { «data» = v.0 })))) (length f))
        ≡ is_of row (decoded_by (and_then r (λ l e. closed f e (M.DataRow (record { «data» = l })))) (length f))
    one_by (got l q) = refl
    one_by (bad number place) = refl

    body_is : is_of row (left_of (rules_of 1) data_row.body data_row.message f 5) ≡ count_is row.columns (read_count signed_count 4 f 5) && at_end row.size (walk row.columns f)
    unfolding data_row read_counted item_least least_of_each
    body_is = one_by (read_counted (rules_of 1) signed_count nullable f 5) ∙ count_by (read_count signed_count 4 f 5) refl

-- ---- the size that a length tells

frame_waits : {end : ℕ} → H.NeedMore ≡ H.Frame end → ⊥
frame_waits e = zero_one cc

frame_refused : {number place end : ℕ} → H.Refused number place ≡ H.Frame end → ⊥
frame_refused e = zero_one cc

abbrev Sized : ℕ → ℕ → Type 0
Sized have end = (7 ≤ end) × (end ≤ have) × (end ≤ large_frame)

sized_by : (have end : ℕ) (z : ℤ) → end_of (line_of data_row) 1 have z ≡ H.Frame end → Sized have end
unfolding end_of data_row
sized_by have end (negsuc n) e = absurd (frame_refused e)
sized_by have end (pos n) e =
    let a = second_chosen (ltb n 6) frame_refused e in
    let b = second_chosen (ltb 1048576 n) frame_refused a.1 in
    let c = second_chosen (ltb have (1 + n)) frame_waits b.1 in
    let made = c.1 in
    let is : 1 + n ≡ end = cc in
    let low : 6 ≤ n = ltb-false _ _ a.0 in
    let high : n ≤ 1048576 = ltb-false _ _ b.0 in
    let there : 1 + n ≤ have = ltb-false _ _ c.0 in
    (omega arith, omega arith, omega arith)

sized : (room : List ℕ) (end : ℕ) → end_in typed (line_of data_row) room ≡ H.Frame end → Sized (length room) end
unfolding end_in
sized room end e = sized_by (length room) end _ (second_chosen (ltb (length room) 5) frame_waits e).1

-- ---- what decoding says, by the steps

not_so : (t : Bool) → (t ≡ true → ⊥) → t ≡ false
not_so true h = absurd (h refl)
not_so false h = refl

module _ (row : Row) (room : List ℕ) where
  abbrev counted : Bool
  counted = count_is row.columns (read_count signed_count 4 (take row.size room) 5)

  abbrev walks : Bool
  walks = at_end row.size (walk row.columns (take row.size room))

  end_by : (h : End) → end_in typed (line_of data_row) room ≡ h
      → is_of row (framed_by h room (λ f. left_of (rules_of 1) data_row.body data_row.message f 5)) ≡ (ends_at row.size h && counted) && walks
  unfolding is_of
  end_by H.NeedMore is = refl
  end_by (H.Refused number place) is = refl
  end_by (H.Frame end) is = by (eqb end row.size) refl
    where
      long : length (take end room) ≡ end
      long = sym (ends typed (line_of data_row) room (sym is))

      by : (t : Bool) → eqb end row.size ≡ t → is_of row (left_of (rules_of 1) data_row.body data_row.message (take end room) 5) ≡ (t && counted) && walks
      by false t = other_size row _ (length (take end room)) (rw long t)
      by true t =
          let same : end ≡ row.size = eqb-true _ _ t in
          let w = sized room end is in
          let size : length (take row.size room) ≡ row.size = length-take-le _ _ (omega (arith, w.1)) in
          ap (λ (e : ℕ). is_of row (left_of (rules_of 1) data_row.body data_row.message (take e room) 5)) same
          ∙ body_is row (take row.size room) size (omega (arith, w.0))

  pub stands_is : stands row room ≡ headed row room && walks
  unfolding stands headed
  stands_is = by (eqb (tag_at typed room) data_row.tag) refl
    where
      by : (t : Bool) → eqb (tag_at typed room) data_row.tag ≡ t → is_of row (decode_of (rules_of 1) room) ≡ (t && (ends_at row.size (end_in typed (line_of data_row) room) && counted)) && walks
      by true t = rw (as_row room (eqb-true _ _ t)) (end_by (end_in typed (line_of data_row) room) refl)
      by false t = not_so (is_of row (decode_of (rules_of 1) room)) (λ e. eqb-false _ _ t (row-tag row room e))

-- ---- the row fits: it may be written at the room's start

pub record Fits (row : Row) (room : List ℕ) : Type 0 where
  pub some : 7 ≤ row.size
  pub within : row.size ≤ length room
  pub small : row.size ≤ large_frame
  pub few : row.columns ≤ most signed_count

signed_by : (n m : ℕ) (t : Bool) → ltb n (256 ^ 2 / 2) ≡ t → cond t (pos n) (negsuc (256 ^ 2 - suc n)) ≡ pos m → m ≤ most signed_count
signed_by n m true e h =
    let low : n < 256 ^ 2 / 2 = ltb-true _ _ e in
    let is : n ≡ m = cc in
    omega arith
signed_by n m false e h = absurd (negsuc-pos h)

-- a count that was read can be written
few_by : (columns : ℕ) (f : List ℕ) (r : Read ListSlot) → read_count signed_count 4 f 5 ≡ r → count_is columns r ≡ true → columns ≤ most signed_count
unfolding signed_of
few_by columns f (got l q) is e =
    let w = counted_is signed_count 4 f 5 q l is in
    let is-count : l.count ≡ columns = eqb-true _ _ e in
    omega (arith, signed_by w.bits l.count (ltb w.bits (256 ^ 2 / 2)) refl w.count)
few_by columns f (bad number place) is e = absurd (false≢true e)

sized_at : (room : List ℕ) (size : ℕ) (h : End) → end_in typed (line_of data_row) room ≡ h → ends_at size h ≡ true → Sized (length room) size
sized_at room size (H.Frame end) is e =
    let same : end ≡ size = eqb-true _ _ e in
    rw same at (sized room end is)
sized_at room size H.NeedMore is e = absurd (false≢true e)
sized_at room size (H.Refused number place) is e = absurd (false≢true e)

module _ (row : Row) (room : List ℕ) where
  pub headed_fits : headed row room ≡ true → Fits row room
  unfolding headed
  headed_fits e =
      let h = and_right (eqb (tag_at typed room) data_row.tag) e in
      let s = sized_at room row.size (end_in typed (line_of data_row) room) refl (and_left _ _ h) in
      let c = and_right (ends_at row.size (end_in typed (line_of data_row) room)) h in
      record { some = s.0; within = s.1; small = s.2; few = few_by row.columns (take row.size room) (read_count signed_count 4 (take row.size room) 5) refl c }

  pub fits : stands row room ≡ true → Fits row room
  fits e = headed_fits (and_left _ _ (sym (stands_is row room) ∙ e))
