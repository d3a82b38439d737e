-- A line by its place in a table, and the letters of its name.
use Prim.Native.Nat.{ℕ, zero, suc, ◌≤◌}
use Prim.Native.String.{String, [] as end, ◌∷◌ as ◌then◌}
use mathlib.Core.Bool.{Bool, true, false, cond, ◌&&◌}
use mathlib.Core.List.{List, [], ◌∷◌}
use mathlib.Core.Option.{some, none}
use mathlib.Core.Path.{◌≡◌, refl, ap, sym}
use native.Mathlib.Omega.{arith}
use lib.Dec.{T, eqb, eqb→eq}
use lib.ListN.{length, take}
use Rattle.std.specs.Prelude.{Option as Maybe, None, slice_get}
use Rattle.std.specs.List.{position, position_or_len}
use Rattle.std.specs.Option.{unwrap_or}
use Rattle.std.proofs.lemmas.Grind.{common_steps}
use Rattle.std.proofs.lemmas.List.Recursion.{is_position_or_len}
use Rattle.protocol.specs.declared.Message.{Message}
use Rattle.protocol.specs.declared.Rules.{Rules}
use Rattle.protocol.specs.declared.kinds.Line.{Line}
use Rattle.protocol.specs.Kinds.{Kind, Mode, modes, mode_of, the_table}
use Rattle.protocol.specs.Lines.{filled, letters_in, lines_of, line_in, table_of, line_at, lined}
use Rattle.protocol.specs.Names.{name_of, letters_of}
use Rattle.protocol.proofs.Basics.{left_holds, right_holds}
use Rattle.protocol.proofs.Find.{All}
use Rattle.protocol.proofs.Views.{each_row}

-- what the code answers of a place of a table is the line there
lined_in : (ls : List Line) (i : ℕ) → lined (slice_get ls i) ≡ line_in ls i
lined_in [] i = refl
lined_in (l ∷ ls) zero = refl
lined_in (l ∷ ls) (suc i) = lined_in ls i

pub lined_there : (rules : Rules) (i : ℕ) {r : Maybe Line} → r ≡ slice_get (table_of rules) i → lined r ≡ line_at rules i
unfolding line_at
lined_there rules i e = rw e (lined_in (table_of rules) i)

-- the table of the mode that the rules name
pub of_mode : (rules : Rules) {m : Mode} (i : ℕ) → mode_of rules ≡ some m → slice_get (lines_of m) i ≡ slice_get (table_of rules) i
of_mode rules i e = rw e refl

pub of_none : (rules : Rules) (i : ℕ) → mode_of rules ≡ none → None ≡ slice_get (table_of rules) i
of_none rules i e = rw e refl

-- ---- the letters of a name

-- there are no more than the name has places
pub not_more : (cs : List ℕ) → letters_in cs ≤ length cs
unfolding letters_in
not_more [] = omega arith
not_more (c ∷ cs) = by (eqb c 32) (not_more cs)
  where
    by : (t : Bool) → letters_in cs ≤ length cs → cond t 0 (suc (letters_in cs)) ≤ suc (length cs)
    by true h = omega arith
    by false h = omega arith

-- they are the place of the first space
letters_before : (cs : List ℕ) → position_or_len (λ c. eqb c 32) cs ≡ letters_in cs
unfolding letters_in
letters_before cs = sym (is_position_or_len letters_in (λ c. eqb c 32) refl (λ c cs. ap (cond (eqb c 32) 0) (omega arith)) cs)

pub letters_found : (cs : List ℕ) (n : ℕ) {r : Maybe ℕ} → r ≡ position (λ c. eqb c 32) cs → length cs ≡ n → unwrap_or r n ≡ letters_in cs
letters_found cs n e h = grind (arith, common_steps, letters_before cs, not_more cs)

pub filled-length : (n : ℕ) (name : String) → length (filled n name) ≡ n
filled-length zero name = refl
filled-length (suc n) end = ap suc (filled-length n end)
filled-length (suc n) (c then name) = ap suc (filled-length n name)

-- ---- the letters of each row's name are the name: one test over all rows

abbrev pub same : List ℕ → List ℕ → Bool
same [] [] = true
same [] (y ∷ ys) = false
same (x ∷ xs) [] = false
same (x ∷ xs) (y ∷ ys) = eqb x y && same xs ys

pub same_is : (xs ys : List ℕ) → T (same xs ys) → xs ≡ ys
same_is [] [] h = refl
same_is [] (y ∷ ys) h = absurd h
same_is (x ∷ xs) [] h = absurd h
same_is (x ∷ xs) (y ∷ ys) h =
    let e : x ≡ y = eqb→eq x y (left_holds (eqb x y) (same xs ys) h) in
    let es : xs ≡ ys = same_is xs ys (right_holds (eqb x y) (same xs ys) h) in
    cc

abbrev letters_back : String → List ℕ
letters_back name = take (letters_in (filled 20 name)) (filled 20 name)

abbrev named : Kind → Type 0
named k = T (same (letters_back k.name) (letters_of k.name))

all_named : All (λ (m : Mode). All named m.kinds) modes
unfolding the_table letters_in
all_named = search tt depth 60 fits 5000

pub its_letters : (m : Message) → letters_back (name_of m) ≡ letters_of (name_of m)
its_letters m = same_is _ _ (each_row named all_named m)
