-- The table of kinds, held against its own shape. A test over all rows is computed, and a law carries it to each.
use Prim.Native.Nat.{ℕ}
use mathlib.Core.Bool.{Bool, true, false, cond, not, ◌&&◌}
use mathlib.Core.List.{List, [], ◌∷◌, map}
use mathlib.Core.Logic.{inl, inr, ◌↔◌}
use mathlib.Core.Option
use mathlib.Core.Option.{some}
use mathlib.Core.Path.{◌≡◌, refl, ap, sym, ◌∙◌}
use borrow.Author.Tests.{eqb-true, eq-eqb, ne_eqb}
use lib.Dec.{T, eqb, eqb→eq}
use Rattle.protocol.specs.declared.Rules.{Rules}
use Rattle.protocol.specs.declared.kinds.Line.{Line}
use Rattle.protocol.specs.Each.{least_of_each}
use Rattle.protocol.specs.Fields.{least}
use Rattle.protocol.specs.Kinds.{Envelope, Kind, Mode, modes, IsIn, find, mode_of, kind_in, the_table}
use Rattle.protocol.specs.Lines.{line_of, lines_of}
use Rattle.protocol.specs.WellFormed.{length_of}
use Rattle.protocol.proofs.Basics.{zero_one, left_holds, right_holds}
use Rattle.protocol.proofs.Find.{every, every_in, number_of, tag_of}
use Rattle.laws.specs.Statements.{Table}

-- ---- smallest lengths

abbrev least_is : Envelope → Kind → Bool
least_is e k = eqb k.smallest (length_of e (least_of_each least k.body))

abbrev least_are : Mode → Bool
least_are m = every (least_is m.envelope) m.kinds

all_least : T (every least_are modes)
unfolding the_table least_of_each
all_least = tt

pub smallest_is : (m : Mode) → IsIn m modes → (k : Kind) → IsIn k m.kinds → k.smallest ≡ length_of m.envelope (least_of_each least k.body)
smallest_is m i k j = eqb→eq _ _ (every_in (least_is m.envelope) m.kinds (every_in least_are modes all_least m i) k j)

-- ---- tags, and the numbers of modes

module _ {A : Type 0} (key : A → ℕ) where
  -- t is the key of none of them
  abbrev fresh : ℕ → List A → Bool
  fresh t xs = every (λ (x : A). not (eqb t (key x))) xs

  -- no two share a key
  abbrev distinct : List A → Bool
  distinct [] = true
  distinct (x ∷ xs) = fresh (key x) xs && distinct xs

  -- a fresh key is no row's
  not_fresh : (t : ℕ) (xs : List A) → T (fresh t xs) → (x : A) → IsIn x xs → key x ≡ t → ⊥
  not_fresh t xs f x i e =
      let n = every_in (λ (x : A). not (eqb t (key x))) xs f x i in
      rw (eq-eqb t (key x) (sym e)) at n

  -- what is found is in the list and has the key: the first row, or by `rest` a later one
  found_by : (t : Bool) (n : ℕ) (y : A) (ys : List A) (x : A) → eqb n (key y) ≡ t → (find key n ys ≡ some x → IsIn x ys × (key x ≡ n)) → cond t (some y) (find key n ys) ≡ some x → IsIn x (y ∷ ys) × (key x ≡ n)
  found_by true n y ys x t rest e =
      let q : y ≡ x = cc in
      (inl (sym q), rw (← q) (sym (eqb-true n (key y) t)))
  found_by false n y ys x t rest e = let r = rest e in (inr r.0, r.1)

  found : (xs : List A) (n : ℕ) (x : A) → find key n xs ≡ some x → IsIn x xs × (key x ≡ n)
  unfolding find
  found [] n x e = absurd (zero_one cc)
  found (y ∷ ys) n x e = found_by (eqb n (key y)) n y ys x refl (found ys n x) e

  -- where no two share a key, what is in the list is found by its own
  finds : (xs : List A) → T (distinct xs) → (n : ℕ) (x : A) → IsIn x xs → key x ≡ n → find key n xs ≡ some x
  unfolding find
  finds [] d n x x5 e = elim x5 [ ]
  finds (y ∷ ys) d n x (inl q) e = rw (eq-eqb n (key y) (sym e ∙ ap key q)) (ap some (sym q))
  finds (y ∷ ys) d n x (inr i) e =
      let f = left_holds (fresh (key y) ys) (distinct ys) d in
      rw (ne_eqb n (key y) (λ q. not_fresh (key y) ys f x i (e ∙ q))) (finds ys (right_holds (fresh (key y) ys) (distinct ys) d) n x i e)

  -- so what is found by n is the one in the list whose key is n
  found_is : (xs : List A) → T (distinct xs) → (n : ℕ) (x : A) → (find key n xs ≡ some x) ↔ (IsIn x xs × (key x ≡ n))
  found_is xs d n x = (found xs n x, λ h. finds xs d n x h.0 h.1)

-- no two modes share a number, and no two kinds of a mode a tag
modes-distinct : T (distinct number_of modes)
unfolding the_table
modes-distinct = tt

kinds-distinct : T (every (λ (m : Mode). distinct tag_of m.kinds) modes)
unfolding the_table
kinds-distinct = tt

-- the mode of some rules is the one with their number
pub mode_found : (rules : Rules) (m : Mode) → (mode_of rules ≡ some m) ↔ (IsIn m modes × (m.mode ≡ rules.mode))
unfolding mode_of
mode_found rules m = found_is number_of modes modes-distinct rules.mode m

-- the kind that a tag tells is the one with that tag
pub kind_found : (m : Mode) → IsIn m modes → (tag : ℕ) (k : Kind) → (kind_in m tag ≡ some k) ↔ (IsIn k m.kinds × (k.tag ≡ tag))
unfolding kind_in
kind_found m i tag k = found_is tag_of m.kinds (every_in (λ (m : Mode). distinct tag_of m.kinds) modes kinds-distinct m i) tag k

-- so no two kinds of a mode share it
pub tags_apart : (m : Mode) → IsIn m modes → (k h : Kind) → IsIn k m.kinds → IsIn h m.kinds → k.tag ≡ h.tag → k ≡ h
tags_apart m i k h j l e =
    let p = (kind_found m i h.tag k).1 (j, e) in
    let q = (kind_found m i h.tag h).1 (l, refl) in
    cc

-- ---- lines

-- what is made of each row is found by the row's own key
find_made : {A B : Type 0} (key : B → ℕ) (make : A → B) (n : ℕ) (xs : List A) → find key n (map make xs) ≡ Option.map make (find (λ (x : A). key (make x)) n xs)
unfolding find
find_made key make n [] = refl
find_made {A} key make n (x ∷ xs) = by (eqb n (key (make x))) (find_made key make n xs)
  where
    by : (t : Bool) → find key n (map make xs) ≡ Option.map make (find (λ (x : A). key (make x)) n xs)
        → cond t (some (make x)) (find key n (map make xs)) ≡ Option.map make (cond t (some x) (find (λ (x : A). key (make x)) n xs))
    by true rest = refl
    by false rest = rest

lines_choose : (m : Mode) (tag : ℕ) → find (λ (l : Line). l.1) tag (lines_of m) ≡ Option.map line_of (kind_in m tag)
unfolding kind_in
lines_choose m tag = find_made (λ (l : Line). l.1) line_of tag m.kinds

pub table : Table modes
table = record { smallest = smallest_is; apart = tags_apart; lines = lines_choose }
