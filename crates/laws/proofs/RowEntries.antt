-- Entry i of the two lists that a row was read into is element i, and later entries are as they were.
use Prim.Native.Nat.{ℕ, zero, suc, ◌+◌, ◌-◌, ◌/◌, ◌^◌, ◌≤◌, ◌<◌}
use mathlib.Core.Bool.{Bool, true, false, cond, ◌&&◌}
use mathlib.Core.List.{List, [], ◌∷◌, ◌++◌, map}
use mathlib.Core.Option.{Option, some, none}
use mathlib.Core.Path.{◌≡◌, refl, ap, sym, subst, ◌∙◌}
use native.Mathlib.Omega.{arith}
use borrow.Author.Tests.{ltb-true, lt-ltb}
use lib.Dec.{leb, ltb}
use lib.IntN.{ℤ, pos, negsuc}
use lib.ListN.{length, take, drop, length-map}
use Rattle.protocol.specs.Decoded as D
use Rattle.protocol.specs.Decoded.{Decoded}
use Rattle.protocol.specs.Found as F
use Rattle.protocol.specs.declared.List.{List as ListSlot}
use Rattle.protocol.specs.declared.Message.TheVariants as M
use Rattle.protocol.specs.declared.Message.{Message}
use Rattle.protocol.specs.declared.Rules.{Rules}
use Rattle.protocol.specs.declared.data.DataRow.{DataRow}
use Rattle.protocol.specs.declared.Span.{Span}
use Rattle.protocol.specs.Answers.{of_element}
use Rattle.protocol.specs.Bytes.{longest, signed_of}
use Rattle.protocol.specs.Decode.{Header, more, refuse, framed, header_of, closed, decoded_by, decode_by, decode_of}
use Rattle.protocol.specs.Elements.{list_in, list_of, read_item_at, element_by, element_at}
use Rattle.protocol.specs.Fields.{AtomSlot, item_least, signed_count, Slot}
use Rattle.protocol.specs.Each.{Each}
use Rattle.protocol.specs.Kinds.{Kind, data_row, nullable, values, value_element}
use Rattle.protocol.specs.Reading.{Read, got, bad, and_then, read_number, value_at, read_value, read_each, read_count, read_counted, pass_items, read}
use Rattle.protocol.specs.Refusals.{bytes_left, output_too_short}
use Rattle.protocol.specs.Rules.{rules_of}
use Rattle.protocol.specs.Views.{View, view}
use Rattle.protocol.proofs.Basics.{zero_one}
use Rattle.protocol.proofs.Counts.{counted_is}
use Rattle.protocol.proofs.Find.{told_row}
use Rattle.protocol.proofs.Framed.{framed_is}
use Rattle.protocol.proofs.Views.{Viewed, viewed}
use Rattle.element.proofs.Calls.{answered_as}
use Rattle.reader.proofs.RowRoom.{data-row}
use Rattle.reader.specs.RowAnswer as R
use Rattle.reader.specs.Row.{Place, length_word, start_of, length_of, entry_of, places_from, row_in, row_fits, row_by, over, starts_of, lengths_of, ReadsRow}
use Rattle.laws.specs.Arguments.{nth}
use Rattle.laws.specs.ReaderStatements.{element_as, RowIs, RowEntries}
use Rattle.laws.specs.Statements.{the_element_call}
use Rattle.laws.proofs.Answered.{row_is}

-- ---- lists

nth-map : {A B : Type 0} (f : A → B) (xs : List A) (i : ℕ) (x : A) → nth xs i ≡ some x → nth (map f xs) i ≡ some (f x)
unfolding nth
nth-map f [] i x e = absurd (zero_one cc)
nth-map f (y ∷ xs) zero x e = let q : y ≡ x = cc in rw q refl
nth-map f (y ∷ xs) (suc i) x e = nth-map f xs i x e

nth_front : {A : Type 0} (xs ys : List A) (i : ℕ) (x : A) → nth xs i ≡ some x → nth (xs ++ ys) i ≡ some x
unfolding nth
nth_front [] ys i x e = absurd (zero_one cc)
nth_front (y ∷ xs) ys zero x e = e
nth_front (y ∷ xs) ys (suc i) x e = nth_front xs ys i x e

-- what is laid over a list's start leaves the later ones
nth_past : {A : Type 0} (xs ys : List A) (i : ℕ) → length xs ≤ i → nth (xs ++ ys) i ≡ nth ys (i - length xs)
unfolding nth
nth_past [] ys i h = let e : i - 0 ≡ i = omega arith in rw e refl
nth_past (x ∷ xs) ys zero h = absurd (omega arith)
nth_past (x ∷ xs) ys (suc i) h = let e : suc i - suc (length xs) ≡ i - length xs = omega arith in rw e (nth_past xs ys i (omega arith))

nth_drop : {A : Type 0} (n : ℕ) (ys : List A) (i : ℕ) → nth (drop n ys) i ≡ nth ys (n + i)
unfolding nth
nth_drop zero ys i = let e : 0 + i ≡ i = omega arith in rw e refl
nth_drop (suc n) [] i = refl
nth_drop (suc n) (y ∷ ys) i = let e : suc n + i ≡ suc (n + i) = omega arith in rw e (nth_drop n ys i)

nth_later : {A : Type 0} (xs ys : List A) (i : ℕ) → length xs ≤ i → nth (over xs ys) i ≡ nth ys i
nth_later xs ys i h =
    let e : length xs + (i - length xs) ≡ i = omega arith in
    nth_past xs (drop (length xs) ys) i h ∙ nth_drop (length xs) ys (i - length xs) ∙ ap (nth ys) e

-- ---- values that were passed

signed_below : (n m : ℕ) (t : Bool) → ltb n (256 ^ 4 / 2) ≡ t → cond t (pos n) (negsuc (256 ^ 4 - suc n)) ≡ pos m → m < suc longest
signed_below n m true h e = let q : n ≡ m = cc in rw (← q) (ltb-true _ _ h)
signed_below n m false h e = absurd (zero_one cc)

-- a value's length is below the largest signed word
value_below : (z : ℤ) (f : List ℕ) (p q : ℕ) (v : Span) (e : ℕ) → ((n : ℕ) → z ≡ pos n → n < suc longest) → value_at z f p q ≡ got (some v) e → v.len < suc longest
unfolding value_at
value_below (pos n) f p q v e h g = by (leb (q + n) (length f)) g
  where
    by : (t : Bool) → cond t (got (some (record { start = q; len = n })) (q + n)) (bad 6 p) ≡ got (some v) e → v.len < suc longest
    by true g = let is : n ≡ v.len = cc in rw (← is) (h n refl)
    by false g = absurd (zero_one cc)
value_below (negsuc zero) f p q v e h g = absurd (zero_one cc)
value_below (negsuc (suc n)) f p q v e h g = absurd (zero_one cc)

length_below : (f : List ℕ) (p : ℕ) (v : Span) (e : ℕ) → read_value f p ≡ got (some v) e → v.len < suc longest
unfolding read_value signed_of
length_below f p v e g = by (read_number 4 f p) g
  where
    by : (r : Read ℕ) → and_then (and_then r (λ n q. got (signed_of 4 n) q)) (λ z q. value_at z f p q) ≡ got (some v) e → v.len < suc longest
    by (got n q) g = value_below (signed_of 4 n) f p q v e (λ m is. signed_below n m (ltb n (256 ^ 4 / 2)) refl is) g
    by (bad number place) g = absurd (zero_one cc)

-- the element of a value is what its entry tells
told : (v : Option Span) → ((s : Span) → v ≡ some s → s.len < suc longest) → value_element v ≡ element_as (start_of v) (length_of v)
unfolding value_element
told none h = refl
told (some s) h =
    let e : length_word s.len ≡ pos s.len = rw (lt-ltb _ _ (h s refl)) refl in
    rw e refl

module _ (rules : Rules) (f : List ℕ) where
  -- value i of those that were passed
  record Passed (n p i : ℕ) : Type 0 where
    value : Option Span
    next : ℕ
    item : read_item_at rules nullable i f p ≡ got (value, tt) next
    place : nth (places_from n f p) i ≡ some (record { start = start_of value; length = length_of value })
    below : (s : Span) → value ≡ some s → s.len < suc longest

  passed_by : (n p q : ℕ) → ((next j : ℕ) → pass_items rules nullable n f next ≡ got tt q → j < n → Passed n next j) → (i : ℕ) → i < suc n → (r : Read (Option Span)) → read_value f p ≡ r
      → and_then (and_then {Y = Each AtomSlot nullable.atoms} r (λ s q. got (s, tt) q)) (λ s q. pass_items rules nullable n f q) ≡ got tt q → Passed (suc n) p i
  unfolding pass_items places_from entry_of nth
  passed_by n p q rest i h (bad number place) is e = absurd (zero_one cc)
  passed_by n p q rest zero h (got v next) is e = record { value = v; next = next; item = rw is refl; place = rw is refl; below = λ s same. length_below f p s next (is ∙ ap (λ (x : Option Span). got x next) same) }
  passed_by n p q rest (suc j) h (got v next) is e =
      let r = rest next j e (omega arith) in
      record { value = r.value; next = r.next; item = rw is r.item; place = rw is r.place; below = r.below }

  passed : (n p q i : ℕ) → pass_items rules nullable n f p ≡ got tt q → i < n → Passed n p i
  unfolding pass_items
  passed zero p q i e h = absurd (omega arith)
  passed (suc n) p q i e h = passed_by n p q (λ next j. passed n next q j) i h (read_value f p) refl e

  -- and there is an entry for each value
  many_by : (n p q : ℕ) → ((next : ℕ) → pass_items rules nullable n f next ≡ got tt q → length (places_from n f next) ≡ n) → (r : Read (Option Span)) → read_value f p ≡ r
      → and_then (and_then {Y = Each AtomSlot nullable.atoms} r (λ s q. got (s, tt) q)) (λ s q. pass_items rules nullable n f q) ≡ got tt q → length (places_from (suc n) f p) ≡ suc n
  unfolding places_from entry_of
  many_by n p q rest (bad number place) is e = absurd (zero_one cc)
  many_by n p q rest (got v next) is e = rw is (ap suc (rest next e))

  many : (n p q : ℕ) → pass_items rules nullable n f p ≡ got tt q → length (places_from n f p) ≡ n
  unfolding pass_items places_from
  many zero p q e = refl
  many (suc n) p q e = many_by n p q (λ next. many n next q) (read_value f p) refl e

-- ---- a row that was decoded: its values were passed

abbrev data_of : DataRow → ListSlot
data_of r = r.«data»

module _ (rules : Rules) (f : List ℕ) where
  pass_by : (p q q' : ℕ) (l l' : ListSlot) → read_count signed_count (item_least nullable) f p ≡ got l' q' → (r : Read (Unit {0})) → pass_items rules nullable l'.count f q' ≡ r → and_then r (λ _ e. got l' e) ≡ got l q
      → pass_items rules nullable l.count f l.start ≡ got tt q
  pass_by p q q' l l' c (got t e) is h =
      let same : l' ≡ l = cc in
      let end : e ≡ q = cc in
      let w = counted_is signed_count (item_least nullable) f p q' l (c ∙ ap (λ (x : ListSlot). got x q') same) in
      rw (w.start, ← same, ← end) is
  pass_by p q q' l l' c (bad number place) is h = absurd (zero_one cc)

  count_by : (p q : ℕ) (l : ListSlot) (r : Read ListSlot) → read_count signed_count (item_least nullable) f p ≡ r → and_then r (λ l q. and_then (pass_items rules nullable l.count f q) (λ _ e. got l e)) ≡ got l q → pass_items rules nullable l.count f l.start ≡ got tt q
  count_by p q l (got l' q') c h = pass_by p q q' l l' c (pass_items rules nullable l'.count f q') refl h
  count_by p q l (bad number place) c h = absurd (zero_one cc)

  row_by_lem : (p q : ℕ) (s : Each Slot (values signed_count ∷ [])) (r : Read ListSlot) → read_counted rules signed_count nullable f p ≡ r → and_then {Y = Each Slot (values signed_count ∷ [])} r (λ l e. got (l, tt) e) ≡ got s q → pass_items rules nullable s.0.count f s.0.start ≡ got tt q
  unfolding read_counted
  row_by_lem p q s (got l e) is h =
      let same : l ≡ s.0 = cc in
      let end : e ≡ q = cc in
      rw (← same) (count_by p q l (read_count signed_count (item_least nullable) f p) refl (is ∙ ap (got l) end))
  row_by_lem p q s (bad number place) is h = absurd (zero_one cc)

  -- a kind whose message is a row: it is viewed as a row, so its values were passed
  row_passes : (k : Kind) → Viewed k → (p q : ℕ) (s : Each Slot k.body) (r : DataRow) → read_each (read rules) k.body f p ≡ got s q → k.message s ≡ M.DataRow r → pass_items rules nullable (data_of r).count f (data_of r).start ≡ got tt q
  unfolding view data_row
  row_passes k is p q s r e m =
      let same : record { kind = k; slots = s } ≡ view (M.DataRow r) = sym (is s) ∙ ap view m in
      row_by_lem p q (data_of r, tt) (read_counted rules signed_count nullable f p) refl (subst (λ (v : View). read_each (read rules) v.kind.body f p ≡ got v.slots q) same e)

abbrev from_backend : Rules
from_backend = rules_of 1

module _ (s : List ℕ) (row : DataRow) (n : ℕ) where
  abbrev Were : Type 0
  Were = (q : ℕ) × (pass_items from_backend nullable (data_of row).count (take n s) (data_of row).start ≡ got tt q)

  by_end : (k : Kind) (a b : ℕ) → header_of from_backend s ≡ framed k a b → (v : Each Slot k.body) (q : ℕ) → read_each (read from_backend) k.body (take b s) a ≡ got v q
      → (t : Bool) → decoded_by (cond t (bad bytes_left q) (got (k.message v) q)) b ≡ D.Record (M.DataRow row) n → Were
  unfolding decoded_by
  by_end k a b e v q r true d = absurd (zero_one cc)
  by_end k a b e v q r false d =
      let is : k.message v ≡ M.DataRow row = cc in
      let end : b ≡ n = cc in
      let w = framed_is from_backend s k a b e in
      (q, rw (← end) (row_passes from_backend (take b s) k (told_row Viewed viewed from_backend _ w.known w.tag) a q v row r is))

  by_body : (k : Kind) (a b : ℕ) → header_of from_backend s ≡ framed k a b → (r : Read (Each Slot k.body)) → read_each (read from_backend) k.body (take b s) a ≡ r
      → decoded_by (and_then r (λ v q. closed (take b s) q (k.message v))) b ≡ D.Record (M.DataRow row) n → Were
  unfolding closed decoded_by
  by_body k a b e (got v q) r d = by_end k a b e v q r (ltb q (length (take b s))) d
  by_body k a b e (bad number place) r d = absurd (zero_one cc)

  by_header : (h : Header) → header_of from_backend s ≡ h → decode_by from_backend s h ≡ D.Record (M.DataRow row) n → Were
  unfolding decode_by
  by_header more e d = absurd (zero_one cc)
  by_header (refuse number place) e d = absurd (zero_one cc)
  by_header (framed k a b) e d = by_body k a b e (read_each (read from_backend) k.body (take b s) a) refl d

  values_passed : decode_of from_backend s ≡ D.Record (M.DataRow row) n → Were
  unfolding decode_of
  values_passed d = by_header (header_of from_backend s) refl d

-- ---- the theorem

-- an answer that is a row comes from a row that was decoded
fits_by : (o : Option ListSlot) (consumed starts lengths : ℕ) (l : ListSlot) (n : ℕ) → R.Is l n ≡ row_fits o consumed starts lengths → (o ≡ some l) × (consumed ≡ n)
unfolding row_fits
fits_by none consumed starts lengths l n e = absurd (zero_one cc)
fits_by (some x) consumed starts lengths l n e = by (leb x.count starts && leb x.count lengths) e
  where
    by : (t : Bool) → R.Is l n ≡ cond t (R.Is x consumed) (R.Refused output_too_short 0) → (◌≡◌ {A = Option ListSlot} (some x) (some l)) × (consumed ≡ n)
    by true q = let same : x ≡ l = cc in (ap some same, cc)
    by false q = absurd (zero_one cc)

record Decoded_row (s : List ℕ) (l : ListSlot) (n : ℕ) : Type 0 where
  row : DataRow
  is : decode_of from_backend s ≡ D.Record (M.DataRow row) n
  list : data_of row ≡ l

decoded_row : (s : List ℕ) (d : Decoded) (starts lengths : ℕ) (l : ListSlot) (n : ℕ) → decode_of from_backend s ≡ d → R.Is l n ≡ row_by d starts lengths → Decoded_row s l n
unfolding row_by
decoded_row s (D.Record m k) starts lengths l n e q =
    let f = fits_by (row_in m) k starts lengths l n q in
    let r = data-row m l f.0 in
    record { row = r.0; is = e ∙ ap (λ (x : Message). D.Record x k) r.1 ∙ ap (D.Record (M.DataRow r.0)) f.1; list = r.2 }
decoded_row s D.NeedMore starts lengths l n e q = absurd (zero_one cc)
decoded_row s (D.Refused number place) starts lengths l n e q = absurd (zero_one cc)

-- the element of a value that was passed
element_is : (f : List ℕ) (l : ListSlot) (i : ℕ) → i < l.count → (w : Passed from_backend f l.count l.start i) → element_at from_backend f i (some (record { item = nullable; list = l })) ≡ F.Is (element_as (start_of w.value) (length_of w.value))
unfolding element_at element_by
element_is f l i h w = rw (lt-ltb _ _ h, w.item) (ap F.Is (told w.value w.below))

entries : (s starts₀ starts₁ : List ℕ) (lengths₀ lengths₁ : List ℤ) (l : ListSlot) (n : ℕ) → ReadsRow s starts₀ lengths₀ (R.Is l n) starts₁ lengths₁ → RowIs the_element_call s starts₀ starts₁ lengths₀ lengths₁ l.count
unfolding list_of list_in view data_row of_element
entries s starts₀ starts₁ lengths₀ lengths₁ l n e =
    let d = decoded_row s (decode_of from_backend s) (length starts₀) (length lengths₀) l n refl e.answer in
    let f = take n s in
    let ok = rw d.list at (values_passed s d.row n d.is).1 in
    let count = many from_backend f l.count l.start _ ok in
    let elements = (answered_as from_backend s 0 (D.Record (M.DataRow d.row) n) d.is).1 in
    record {
      entry = λ i h.
          let w = passed from_backend f l.count l.start _ i ok h in (
            start_of w.value,
            length_of w.value,
            rw e.starts (nth_front _ _ i _ (nth-map (λ (x : Place). x.start) _ i _ w.place)),
            rw e.lengths (nth_front _ _ i _ (nth-map (λ (x : Place). x.length) _ i _ w.place)),
            ap of_element {y = F.Is (element_as (start_of w.value) (length_of w.value))} (sym (elements i) ∙ rw d.list (element_is f l i h w)),
          );
      starts = λ i h. rw e.starts (nth_later (starts_of (places_from l.count f l.start)) starts₀ i (simp length-map (omega (arith, count))));
      lengths = λ i h. rw e.lengths (nth_later (lengths_of (places_from l.count f l.start)) lengths₀ i (simp length-map (omega (arith, count))));
    }

pub row_entries : RowEntries the_element_call
row_entries s starts₀ starts₁ lengths₀ lengths₁ r l n e h = entries s starts₀ starts₁ lengths₀ lengths₁ l n (rw (row_is h) at e)
