-- Which content lists of arguments are, item by item, and when they are none.
use Prim.Native.Nat.{ℕ, zero, suc, ◌+◌, ◌*◌, ◌≤◌, ◌<◌}
use mathlib.Core.Bool.{Bool, true, false, cond, false≢true}
use mathlib.Core.List.{List, [], ◌∷◌}
use mathlib.Core.Logic.{◌⊎◌, inl, inr, ⊎_elim, ⊎_map, ◌↔◌}
use mathlib.Core.Option.{Option, some, none}
use mathlib.Core.Path.{◌≡◌, refl, ap, sym, ◌∙◌}
use native.Mathlib.Omega.{arith}
use borrow.Author.Tests.{leb-true, leb-false, le-ltb}
use lib.Dec.{leb}
use lib.IntN.{ℤ, pos, negsuc}
use lib.ListN.{length, take, drop, length-drop, length-take}
use lib.Seq.{drop-drop}
use Rattle.protocol.specs.declared.data.FieldDescription.{FieldDescription}
use Rattle.protocol.specs.Encode.{items, one_before, values_given, error_fields_given, or_none, texts_given, by_turns, pairs_given, row_field_given, row_fields_given}
use Rattle.protocol.specs.Bytes.{Bytes, part_of}
use Rattle.protocol.specs.Each.{HoldsEach}
use Rattle.protocol.specs.Fields.{ItemContent, ValueInRange, AtomInRange, ItemInRange, ItemsInRange}
use Rattle.protocol.specs.Kinds.{oid, format, nullable, row_field, error_field, pair}
use Rattle.protocol.proofs.Basics.{zero_one}
use Rattle.laws.specs.Arguments.{nth, Some, All, Unsigned, Signed, TypedField, itself, size_of, total, BelowNull, value_at, Outside}
use Rattle.laws.specs.EncodeStatements.{Values, ErrorFields, Pairs, RowFieldIs, RowFields, NumberItems, ArgumentsInRange}
use Rattle.laws.proofs.Numbers.{bytes_take, bytes_drop}

-- ---- options

-- what stands before a list that is there
record Before {A : Type 0} (x : A) (o : Option (List A)) (cs : List A) : Type 0 where
  rest : List A
  was : o ≡ some rest
  is : cs ≡ x ∷ rest

before : {A : Type 0} (x : A) (o : Option (List A)) (cs : List A) → one_before x o ≡ some cs → Before x o cs
before x none cs e = absurd (zero_one cc)
before x (some rest) cs e = let q : x ∷ rest ≡ cs = cc in record { rest = rest; was = refl; is = sym q }

-- a test that let a list through
let_through : {A : Type 0} (t : Bool) (o : Option (List A)) (cs : List A) → cond t o none ≡ some cs → (t ≡ true) × (o ≡ some cs)
let_through true o cs e = (refl, e)
let_through false o cs e = absurd (zero_one cc)

-- there is a list, or there is none
either : {A : Type 0} (o : Option (List A)) → ((cs : List A) × (o ≡ some cs)) ⊎ (o ≡ none)
either none = inr refl
either (some cs) = inl (cs, refl)

not_both : {A : Type 0} (o : Option (List A)) (cs : List A) → o ≡ some cs → o ≡ none → ⊥
not_both o cs e f = zero_one cc

-- none exactly where something is wrong: where there is a list nothing is, and where nothing is there is a list
none_exactly : {A W : Type 0} (o : Option (List A)) → ((cs : List A) → o ≡ some cs → W → ⊥) → (o ≡ none → W) → (o ≡ none) ↔ W
none_exactly {A} {W} o right wrong = (wrong, λ w. by (either o) w)
  where
    by : ((cs : List A) × (o ≡ some cs)) ⊎ (o ≡ none) → W → o ≡ none
    by (inl h) w = absurd (right h.0 h.1 w)
    by (inr h) w = h

-- ---- values

value_shift : (z : ℤ) (n t : ℕ) (bs : List ℕ) → value_at z t (drop n bs) ≡ value_at z (n + t) bs
value_shift (pos m) n t bs = ap (λ (r : List ℕ). some (take m r)) (drop-drop t n bs)
value_shift (negsuc m) n t bs = refl

-- the first length, and the values after it
record FirstValue (z : ℤ) (ls : List ℤ) (bs : List ℕ) (cs : List (ItemContent nullable)) : Type 0 where
  fits : size_of z ≤ length bs
  right : BelowNull z → ⊥
  rest : List (ItemContent nullable)
  was : values_given ls (drop (size_of z) bs) ≡ some rest
  is : cs ≡ (value_at z 0 bs, tt) ∷ rest

first_value : (z : ℤ) (ls : List ℤ) (bs : List ℕ) (cs : List (ItemContent nullable)) → values_given (z ∷ ls) bs ≡ some cs → FirstValue z ls bs cs
unfolding values_given
first_value (pos n) ls bs cs e =
    let t = let_through (leb n (length bs)) _ cs e in
    let b = before (some (take n bs), tt) (values_given ls (drop n bs)) cs t.1 in
    record { fits = leb-true _ _ t.0; right = λ h. let q = h.1 in zero_one cc; rest = b.rest; was = b.was; is = b.is }
first_value (negsuc zero) ls bs cs e =
    let b = before (none, tt) (values_given ls bs) cs e in
    record { fits = omega arith; right = λ h. let q = h.1 in let y : 0 ≡ suc h.0 = cc in omega arith; rest = b.rest; was = b.was; is = b.is }
first_value (negsuc (suc n)) ls bs cs e = absurd (zero_one cc)

values_items : (ls : List ℤ) (bs : List ℕ) (cs : List (ItemContent nullable)) → values_given ls bs ≡ some cs → (i : ℕ) (z : ℤ) → nth ls i ≡ some z → nth cs i ≡ some (value_at z (total size_of (take i ls)) bs, tt)
unfolding nth total
values_items [] bs cs e i z h = absurd (zero_one cc)
values_items (y ∷ ls) bs cs e zero z h =
    let q : y ≡ z = cc in
    let f = first_value y ls bs cs e in
    rw (f.is, q) refl
values_items (y ∷ ls) bs cs e (suc i) z h =
    let f = first_value y ls bs cs e in
    rw f.is (values_items ls (drop (size_of y) bs) f.rest f.was i z h ∙ rw (value_shift z (size_of y) (total size_of (take i ls)) bs) refl)

values_many : (ls : List ℤ) (bs : List ℕ) (cs : List (ItemContent nullable)) → values_given ls bs ≡ some cs → length cs ≡ length ls
unfolding values_given
values_many [] [] cs e = let q : [] ≡ cs = cc in rw (← q) refl
values_many [] (b ∷ bs) cs e = absurd (zero_one cc)
values_many (z ∷ ls) bs cs e = let f = first_value z ls bs cs e in rw f.is (ap suc (values_many ls (drop (size_of z) bs) f.rest f.was))

values_right : (ls : List ℤ) (bs : List ℕ) (cs : List (ItemContent nullable)) → values_given ls bs ≡ some cs → (Some BelowNull ls → ⊥) × (total size_of ls ≡ length bs)
unfolding values_given Some total
values_right [] [] cs e = (λ h. h, refl)
values_right [] (b ∷ bs) cs e = absurd (zero_one cc)
values_right (z ∷ ls) bs cs e =
    let f = first_value z ls bs cs e in
    let ih = values_right ls (drop (size_of z) bs) f.rest f.was in
    (⊎_elim f.right ih.0, omega (arith, f.fits, simp length-drop at ih.1))

-- none, behind a test and a first item
none_by : {A : Type 0} (x : A) (o : Option (List A)) (t : Bool) → cond t (one_before x o) none ≡ none → (t ≡ false) ⊎ (o ≡ none)
none_by x o false e = inl refl
none_by x none true e = inr refl
none_by x (some cs) true e = absurd (zero_one cc)

-- n bytes are taken for the first: where there are fewer the total is wrong, and where it is wrong behind them it is wrong at all
total_wrong : {A : Type 0} (size : A → ℕ) (x : A) (xs : List A) (bs : List ℕ) → (leb (size x) (length bs) ≡ false) ⊎ (total size xs ≡ length (drop (size x) bs) → ⊥) → size x + total size xs ≡ length bs → ⊥
total_wrong size x xs bs (inl t) e = let l : length bs < size x = leb-false _ _ t in omega arith
total_wrong size x xs bs (inr h) e = h (simp length-drop (omega arith))

-- a first item of n bytes that is right: what is wrong is wrong behind it, or the total is
wrong_behind : {A : Type 0} {B : Type 0} (P : A → Type 0) (size : A → ℕ) (x : A) (xs : List A) (bs : List ℕ) (y : B) (o : Option (List B)) → cond (leb (size x) (length bs)) (one_before y o) none ≡ none
    → (o ≡ none → Some P xs ⊎ (total size xs ≡ length (drop (size x) bs) → ⊥)) → (P x ⊎ Some P xs) ⊎ (size x + total size xs ≡ length bs → ⊥)
wrong_behind P size x xs bs y o e rest =
    ⊎_elim (λ t. inr (total_wrong size x xs bs (inl t)))
    (λ h. ⊎_map inr (λ w. total_wrong size x xs bs (inr w)) (rest h))
    (none_by y o (leb (size x) (length bs)) e)

values_wrong : (ls : List ℤ) (bs : List ℕ) → values_given ls bs ≡ none → Some BelowNull ls ⊎ (total size_of ls ≡ length bs → ⊥)
unfolding values_given Some total
values_wrong [] [] e = absurd (zero_one cc)
values_wrong [] (b ∷ bs) e = inr (λ h. omega arith)
values_wrong (pos n ∷ ls) bs e = wrong_behind BelowNull size_of (pos n) ls bs (some (take n bs), tt) (values_given ls (drop n bs)) e (values_wrong ls (drop n bs))
values_wrong (negsuc zero ∷ ls) bs e = ⊎_map inr (λ h q. h (omega arith)) (values_wrong ls bs (⊎_elim (λ t. absurd (false≢true (sym t))) (λ h. h) (none_by (none, tt) (values_given ls bs) true e)))
values_wrong (negsuc (suc n) ∷ ls) bs e = inl (inl (n, refl))

pub values : Values
values ls bs = record {
  items = values_items ls bs;
  many = values_many ls bs;
  none = none_exactly (values_given ls bs) (λ cs e. ⊎_elim (values_right ls bs cs e).0 (λ h. h (values_right ls bs cs e).1)) (values_wrong ls bs);
}

-- ---- an error's fields

-- the first code and length, and the fields after them
record FirstError (c n : ℕ) (cs ns bs : List ℕ) (fs : List (ItemContent error_field)) : Type 0 where
  fits : n ≤ length bs
  rest : List (ItemContent error_field)
  was : error_fields_given cs ns (drop n bs) ≡ some rest
  is : fs ≡ (c, (take n bs, tt)) ∷ rest

first_error : (c n : ℕ) (cs ns bs : List ℕ) (fs : List (ItemContent error_field)) → error_fields_given (c ∷ cs) (n ∷ ns) bs ≡ some fs → FirstError c n cs ns bs fs
unfolding error_fields_given
first_error c n cs ns bs fs e =
    let t = let_through (leb n (length bs)) _ fs e in
    let b = before (c, (take n bs, tt)) (error_fields_given cs ns (drop n bs)) fs t.1 in
    record { fits = leb-true _ _ t.0; rest = b.rest; was = b.was; is = b.is }

errors_items : (cs ns bs : List ℕ) (fs : List (ItemContent error_field)) → error_fields_given cs ns bs ≡ some fs → (i code n : ℕ) → nth cs i ≡ some code → nth ns i ≡ some n → nth fs i ≡ some (code, (take n (drop (total itself (take i ns)) bs), tt))
unfolding nth total
errors_items [] ns bs fs e i code n h g = absurd (zero_one cc)
errors_items (c ∷ cs) [] bs fs e i code n h g = absurd (zero_one cc)
errors_items (c ∷ cs) (m ∷ ns) bs fs e zero code n h g =
    let q : c ≡ code = cc in
    let p : m ≡ n = cc in
    let f = first_error c m cs ns bs fs e in
    rw (f.is, q, p) refl
errors_items (c ∷ cs) (m ∷ ns) bs fs e (suc i) code n h g =
    let f = first_error c m cs ns bs fs e in
    rw f.is (errors_items cs ns (drop m bs) f.rest f.was i code n h g ∙ rw (drop-drop (total itself (take i ns)) m bs) refl)

errors_right : (cs ns bs : List ℕ) (fs : List (ItemContent error_field)) → error_fields_given cs ns bs ≡ some fs → (length fs ≡ length cs) × (length cs ≡ length ns) × (total itself ns ≡ length bs)
unfolding error_fields_given total
errors_right [] [] [] fs e = let q : [] ≡ fs = cc in (rw (← q) refl, refl, refl)
errors_right [] [] (b ∷ bs) fs e = absurd (zero_one cc)
errors_right [] (n ∷ ns) bs fs e = absurd (zero_one cc)
errors_right (c ∷ cs) [] bs fs e = absurd (zero_one cc)
errors_right (c ∷ cs) (n ∷ ns) bs fs e =
    let f = first_error c n cs ns bs fs e in
    let ih = errors_right cs ns (drop n bs) f.rest f.was in
    (rw f.is (ap suc ih.0), ap suc ih.1, omega (arith, f.fits, simp length-drop at ih.2))

errors_wrong : (cs ns bs : List ℕ) → error_fields_given cs ns bs ≡ none → (length cs ≡ length ns → ⊥) ⊎ (total itself ns ≡ length bs → ⊥)
unfolding error_fields_given total
errors_wrong [] [] [] e = absurd (zero_one cc)
errors_wrong [] [] (b ∷ bs) e = inr (λ h. omega arith)
errors_wrong [] (n ∷ ns) bs e = inl (λ h. omega arith)
errors_wrong (c ∷ cs) [] bs e = inl (λ h. omega arith)
errors_wrong (c ∷ cs) (n ∷ ns) bs e =
    ⊎_elim (λ t. inr (total_wrong itself n ns bs (inl t)))
    (λ h. ⊎_map (λ w q. w (omega arith)) (λ w. total_wrong itself n ns bs (inr w)) (errors_wrong cs ns (drop n bs) h))
    (none_by (c, (take n bs, tt)) (error_fields_given cs ns (drop n bs)) (leb n (length bs)) e)

pub error_fields_lem : ErrorFields
error_fields_lem cs ns bs = record {
  items = errors_items cs ns bs;
  many = λ fs e. (errors_right cs ns bs fs e).0;
  none = none_exactly (error_fields_given cs ns bs) (λ fs e. ⊎_elim (λ w. w (errors_right cs ns bs fs e).1) (λ w. w (errors_right cs ns bs fs e).2)) (errors_wrong cs ns bs);
}

-- ---- start-up arguments: strings by their lengths, and these by turns

-- the first string, and those after it
record FirstText (n : ℕ) (ns bs : List ℕ) (ts : List (List ℕ)) : Type 0 where
  fits : n ≤ length bs
  rest : List (List ℕ)
  was : texts_given ns (drop n bs) ≡ some rest
  is : ts ≡ take n bs ∷ rest

first_text : (n : ℕ) (ns bs : List ℕ) (ts : List (List ℕ)) → texts_given (n ∷ ns) bs ≡ some ts → FirstText n ns bs ts
unfolding texts_given
first_text n ns bs ts e =
    let t = let_through (leb n (length bs)) _ ts e in
    let b = before (take n bs) (texts_given ns (drop n bs)) ts t.1 in
    record { fits = leb-true _ _ t.0; rest = b.rest; was = b.was; is = b.is }

texts_items : (ns bs : List ℕ) (ts : List (List ℕ)) → texts_given ns bs ≡ some ts → (i n : ℕ) → nth ns i ≡ some n → nth ts i ≡ some (take n (drop (total itself (take i ns)) bs))
unfolding nth total
texts_items [] bs ts e i n h = absurd (zero_one cc)
texts_items (m ∷ ns) bs ts e zero n h =
    let q : m ≡ n = cc in
    let f = first_text m ns bs ts e in
    rw (f.is, q) refl
texts_items (m ∷ ns) bs ts e (suc i) n h =
    let f = first_text m ns bs ts e in
    rw f.is (texts_items ns (drop m bs) f.rest f.was i n h ∙ rw (drop-drop (total itself (take i ns)) m bs) refl)

texts_right : (ns bs : List ℕ) (ts : List (List ℕ)) → texts_given ns bs ≡ some ts → (length ns ≡ length ts) × (total itself ns ≡ length bs)
unfolding texts_given total
texts_right [] [] ts e = let q : [] ≡ ts = cc in (rw (← q) refl, refl)
texts_right [] (b ∷ bs) ts e = absurd (zero_one cc)
texts_right (n ∷ ns) bs ts e =
    let f = first_text n ns bs ts e in
    let ih = texts_right ns (drop n bs) f.rest f.was in
    (rw f.is (ap suc ih.0), omega (arith, f.fits, simp length-drop at ih.1))

texts_wrong : (ns bs : List ℕ) → texts_given ns bs ≡ none → total itself ns ≡ length bs → ⊥
unfolding texts_given total
texts_wrong [] [] e = absurd (zero_one cc)
texts_wrong [] (b ∷ bs) e = λ h. omega arith
texts_wrong (n ∷ ns) bs e =
    total_wrong itself n ns bs (⊎_map (λ t. t) (λ h. texts_wrong ns (drop n bs) h) (none_by (take n bs) (texts_given ns (drop n bs)) (leb n (length bs)) e))

twice : (i : ℕ) → 2 * suc i ≡ suc (suc (2 * i))
twice i = omega arith

turns_items : (ts : List (List ℕ)) (ps : List (ItemContent pair)) → by_turns ts ≡ some ps → (i : ℕ) (name value : List ℕ) → nth ts (2 * i) ≡ some name → nth ts (suc (2 * i)) ≡ some value → nth ps i ≡ some (name, (value, tt))
unfolding by_turns nth
turns_items [] ps e i name value h g = absurd (zero_one cc)
turns_items (a ∷ []) ps e i name value h g = absurd (zero_one cc)
turns_items (a ∷ b ∷ ts) ps e zero name value h g =
    let f = before (a, (b, tt)) (by_turns ts) ps e in
    let q : a ≡ name = cc in
    let p : b ≡ value = cc in
    rw (f.is, q, p) refl
turns_items (a ∷ b ∷ ts) ps e (suc i) name value h g =
    let f = before (a, (b, tt)) (by_turns ts) ps e in
    rw f.is (turns_items ts f.rest f.was i name value (rw (twice i) at h) (rw (twice i) at g))

turns_many : (ts : List (List ℕ)) (ps : List (ItemContent pair)) → by_turns ts ≡ some ps → length ts ≡ 2 * length ps
unfolding by_turns
turns_many [] ps e = let q : [] ≡ ps = cc in rw (← q) refl
turns_many (a ∷ []) ps e = absurd (zero_one cc)
turns_many (a ∷ b ∷ ts) ps e =
    let f = before (a, (b, tt)) (by_turns ts) ps e in
    rw f.is (omega (arith, turns_many ts f.rest f.was))

turns_wrong : (ts : List (List ℕ)) → by_turns ts ≡ none → (half : ℕ) → length ts ≡ 2 * half → ⊥
unfolding by_turns
turns_wrong [] e half h = absurd (zero_one cc)
turns_wrong (a ∷ []) e half h = omega arith
turns_wrong (a ∷ b ∷ ts) e zero h = omega arith
turns_wrong (a ∷ b ∷ ts) e (suc half) h = turns_wrong ts (by (by_turns ts) e) half (omega arith)
  where
    by : (o : Option (List (ItemContent pair))) → one_before (a, (b, tt)) o ≡ none → o ≡ none
    by none e = refl
    by (some ps) e = absurd (zero_one cc)

-- what is made of the strings, if there are any
record Made (ns bs : List ℕ) (ps : List (ItemContent pair)) : Type 0 where
  texts : List (List ℕ)
  were : texts_given ns bs ≡ some texts
  turns : by_turns texts ≡ some ps

made : (ns bs : List ℕ) (ps : List (ItemContent pair)) → pairs_given ns bs ≡ some ps → Made ns bs ps
unfolding pairs_given
made ns bs ps e = by (texts_given ns bs) refl e
  where
    by : (o : Option (List (List ℕ))) → texts_given ns bs ≡ o → or_none by_turns o ≡ some ps → Made ns bs ps
    by none h e = absurd (zero_one cc)
    by (some ts) h e = record { texts = ts; were = h; turns = e }

pairs_items : (ns bs : List ℕ) (ps : List (ItemContent pair)) → pairs_given ns bs ≡ some ps → (i name value : ℕ) → nth ns (2 * i) ≡ some name → nth ns (2 * i + 1) ≡ some value
    → nth ps i ≡ some (take name (drop (total itself (take (2 * i) ns)) bs), (take value (drop (total itself (take (2 * i + 1) ns)) bs), tt))
pairs_items ns bs ps e i name value h g =
    let m = made ns bs ps e in
    let next : 2 * i + 1 ≡ suc (2 * i) = omega arith in
    rw next
    (turns_items m.texts ps m.turns i _ _ (texts_items ns bs m.texts m.were (2 * i) name h)
    (texts_items ns bs m.texts m.were (suc (2 * i)) value (rw next at g)))

pairs_many : (ns bs : List ℕ) (ps : List (ItemContent pair)) → pairs_given ns bs ≡ some ps → length ns ≡ 2 * length ps
pairs_many ns bs ps e = let m = made ns bs ps e in (texts_right ns bs m.texts m.were).0 ∙ turns_many m.texts ps m.turns

pairs_wrong : (ns bs : List ℕ) → pairs_given ns bs ≡ none → ((half : ℕ) → length ns ≡ 2 * half → ⊥) ⊎ (total itself ns ≡ length bs → ⊥)
unfolding pairs_given
pairs_wrong ns bs e = by (texts_given ns bs) refl e
  where
    by : (o : Option (List (List ℕ))) → texts_given ns bs ≡ o → or_none by_turns o ≡ none → ((half : ℕ) → length ns ≡ 2 * half → ⊥) ⊎ (total itself ns ≡ length bs → ⊥)
    by none h e = inr (texts_wrong ns bs h)
    by (some ts) h e = inl (λ half q. turns_wrong ts e half (sym (texts_right ns bs ts h).0 ∙ q))

pub pairs : Pairs
pairs ns bs = record {
  items = pairs_items ns bs;
  many = pairs_many ns bs;
  none = none_exactly (pairs_given ns bs)
      (λ ps e. ⊎_elim (λ w. w (length ps) (pairs_many ns bs ps e)) (λ w. let m = made ns bs ps e in w (texts_right ns bs m.texts m.were).1))
      (pairs_wrong ns bs);
}

-- ---- a row's fields

abbrev inside : FieldDescription → List ℕ → Bool
inside d run = leb (d.name.start + d.name.len) (length run)

record FirstRow (d : FieldDescription) (ds : List FieldDescription) (run : List ℕ) (fs : List (ItemContent row_field)) : Type 0 where
  fits : inside d run ≡ true
  rest : List (ItemContent row_field)
  was : row_fields_given ds run ≡ some rest
  is : fs ≡ row_field_given d run ∷ rest

first_row : (d : FieldDescription) (ds : List FieldDescription) (run : List ℕ) (fs : List (ItemContent row_field)) → row_fields_given (d ∷ ds) run ≡ some fs → FirstRow d ds run fs
unfolding row_fields_given
first_row d ds run fs e =
    let t = let_through (inside d run) _ fs e in
    let b = before (row_field_given d run) (row_fields_given ds run) fs t.1 in
    record { fits = t.0; rest = b.rest; was = b.was; is = b.is }

-- its name stands within the run, so the part of the run there is its bytes
row_is : (d : FieldDescription) (run : List ℕ) → inside d run ≡ true → RowFieldIs run d (row_field_given d run)
unfolding part_of
row_is d run h =
    let name : part_of run d.name.start d.name.len ≡ take d.name.len (drop d.name.start run) = rw (le-ltb _ _ (leb-true _ _ h)) refl in
    record { name = sym name; table_id = refl; column_id = refl; type_id = refl; type_size = refl; type_modifier = refl; format_code = refl }

rows_items : (ds : List FieldDescription) (run : List ℕ) (fs : List (ItemContent row_field)) → row_fields_given ds run ≡ some fs → (i : ℕ) (d : FieldDescription) → nth ds i ≡ some d → (c : ItemContent row_field) × (nth fs i ≡ some c) × RowFieldIs run d c
unfolding nth
rows_items [] run fs e i d h = absurd (zero_one cc)
rows_items (d ∷ ds) run fs e zero x h =
    let q : d ≡ x = cc in
    let f = first_row d ds run fs e in
    (row_field_given d run, rw f.is refl, rw (← q) (row_is d run f.fits))
rows_items (d ∷ ds) run fs e (suc i) x h =
    let f = first_row d ds run fs e in
    rw f.is (rows_items ds run f.rest f.was i x h)

rows_right : (ds : List FieldDescription) (run : List ℕ) (fs : List (ItemContent row_field)) → row_fields_given ds run ≡ some fs → (length fs ≡ length ds) × (Some (Outside run) ds → ⊥)
unfolding row_fields_given Some
rows_right [] run fs e = let q : [] ≡ fs = cc in (rw (← q) refl, λ h. h)
rows_right (d ∷ ds) run fs e =
    let f = first_row d ds run fs e in
    let ih = rows_right ds run f.rest f.was in
    let l : d.name.start + d.name.len ≤ length run = leb-true _ _ f.fits in
    (rw f.is (ap suc ih.0), ⊎_elim (λ h. omega (arith, h, l)) ih.1)

rows_wrong : (ds : List FieldDescription) (run : List ℕ) → row_fields_given ds run ≡ none → Some (Outside run) ds
unfolding row_fields_given Some
rows_wrong [] run e = absurd (zero_one cc)
rows_wrong (d ∷ ds) run e = ⊎_map (λ t. leb-false _ _ t) (rows_wrong ds run) (none_by (row_field_given d run) (row_fields_given ds run) (inside d run) e)

pub row_fields_lem : RowFields
row_fields_lem ds run = record {
  items = rows_items ds run;
  many = λ fs e. (rows_right ds run fs e).0;
  none = none_exactly (row_fields_given ds run) (λ fs e. (rows_right ds run fs e).1) (rows_wrong ds run);
}

-- ---- oids and formats

pub number_items : NumberItems
unfolding nth
number_items A [] i x e = absurd (zero_one cc)
number_items A (y ∷ xs) zero x e = let q : y ≡ x = cc in rw q refl
number_items A (y ∷ xs) (suc i) x e = number_items A xs i x e

-- ---- arguments of their types are in range

oids_range : (xs : List ℕ) → All (Unsigned 4) xs → ItemsInRange oid (items xs)
unfolding All ItemsInRange ItemInRange HoldsEach AtomInRange
oids_range [] h = tt
oids_range (x ∷ xs) h = ((h.0, tt), oids_range xs h.1)

formats_range : (zs : List ℤ) → All (Signed 2) zs → ItemsInRange format (items zs)
unfolding All ItemsInRange ItemInRange HoldsEach AtomInRange
formats_range [] h = tt
formats_range (z ∷ zs) h = ((h.0, tt), formats_range zs h.1)

value_range : (z : ℤ) (bs : List ℕ) → Signed 4 z → Bytes bs → ValueInRange (value_at z 0 bs)
unfolding ValueInRange
value_range (pos n) bs h b = (bytes_take n bs b, simp length-take (omega (arith, h)))
value_range (negsuc n) bs h b = tt

values_range : (ls : List ℤ) (bs : List ℕ) (cs : List (ItemContent nullable)) → All (Signed 4) ls → Bytes bs → values_given ls bs ≡ some cs → ItemsInRange nullable cs
unfolding All values_given ItemsInRange ItemInRange HoldsEach AtomInRange
values_range [] [] cs h b e = let q : [] ≡ cs = cc in rw (← q) tt
values_range [] (x ∷ bs) cs h b e = absurd (zero_one cc)
values_range (z ∷ ls) bs cs h b e =
    let f = first_value z ls bs cs e in
    rw f.is ((value_range z bs h.0 b, tt), values_range ls (drop (size_of z) bs) f.rest h.1 (bytes_drop (size_of z) bs b) f.was)

errors_range : (cs ns bs : List ℕ) (fs : List (ItemContent error_field)) → Bytes cs → Bytes bs → error_fields_given cs ns bs ≡ some fs → ItemsInRange error_field fs
unfolding error_fields_given Bytes ItemsInRange ItemInRange HoldsEach AtomInRange
errors_range [] [] [] fs h b e = let q : [] ≡ fs = cc in rw (← q) tt
errors_range [] [] (x ∷ bs) fs h b e = absurd (zero_one cc)
errors_range [] (n ∷ ns) bs fs h b e = absurd (zero_one cc)
errors_range (c ∷ cs) [] bs fs h b e = absurd (zero_one cc)
errors_range (c ∷ cs) (n ∷ ns) bs fs h b e =
    let f = first_error c n cs ns bs fs e in
    rw f.is ((h.0, (bytes_take n bs b, tt)), errors_range cs ns (drop n bs) f.rest h.1 (bytes_drop n bs b) f.was)

texts_range : (ns bs : List ℕ) (ts : List (List ℕ)) → Bytes bs → texts_given ns bs ≡ some ts → All Bytes ts
unfolding All texts_given
texts_range [] [] ts b e = let q : [] ≡ ts = cc in rw (← q) tt
texts_range [] (x ∷ bs) ts b e = absurd (zero_one cc)
texts_range (n ∷ ns) bs ts b e =
    let f = first_text n ns bs ts e in
    rw f.is (bytes_take n bs b, texts_range ns (drop n bs) f.rest (bytes_drop n bs b) f.was)

turns_range : (ts : List (List ℕ)) (ps : List (ItemContent pair)) → All Bytes ts → by_turns ts ≡ some ps → ItemsInRange pair ps
unfolding All by_turns ItemsInRange ItemInRange HoldsEach AtomInRange
turns_range [] ps h e = let q : [] ≡ ps = cc in rw (← q) tt
turns_range (a ∷ []) ps h e = absurd (zero_one cc)
turns_range (a ∷ b ∷ ts) ps h e =
    let f = before (a, (b, tt)) (by_turns ts) ps e in
    rw f.is ((h.0, (h.1.0, tt)), turns_range ts f.rest h.1.1 f.was)

pairs_range : (ns bs : List ℕ) (ps : List (ItemContent pair)) → Bytes bs → pairs_given ns bs ≡ some ps → ItemsInRange pair ps
pairs_range ns bs ps b e = let m = made ns bs ps e in turns_range m.texts ps (texts_range ns bs m.texts b m.were) m.turns

rows_range : (ds : List FieldDescription) (run : List ℕ) (fs : List (ItemContent row_field)) → All TypedField ds → Bytes run → row_fields_given ds run ≡ some fs → ItemsInRange row_field fs
unfolding All row_fields_given ItemsInRange ItemInRange HoldsEach AtomInRange
rows_range [] run fs h b e = let q : [] ≡ fs = cc in rw (← q) tt
rows_range (d ∷ ds) run fs h b e =
    let f = first_row d ds run fs e in
    let t = h.0 in
    let name = bytes_take d.name.len _ (bytes_drop d.name.start run b) in
    rw f.is ((name, (t.table, (t.column, (t.type, (t.size, (t.modifier, (t.format, tt))))))), rows_range ds run f.rest h.1 b f.was)

pub in_range_lem : ArgumentsInRange
in_range_lem = record { oids = oids_range; formats = formats_range; values = values_range; error_fields = errors_range; pairs = pairs_range; row_fields = rows_range }
