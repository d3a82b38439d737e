-- Finding a row of a table by its key.
use Prim.Native.Nat.{ℕ}
use mathlib.Core.Bool.{Bool, true, false, cond, ◌&&◌}
use mathlib.Core.List.{List, [], ◌∷◌}
use mathlib.Core.Logic.{inl, inr}
use mathlib.Core.Option.{some, none}
use mathlib.Core.Path.{◌≡◌, refl, ap, sym}
use borrow.Author.Tests.{ne_eqb}
use lib.Dec.{T, eqb}
use Rattle.protocol.specs.declared.Rules.{Rules}
use Rattle.protocol.specs.Bytes.{is_one_of}
use Rattle.protocol.specs.Kinds.{Kind, Mode, modes, IsIn, find, mode_of, kind_in}
use Rattle.protocol.proofs.Basics.{none-some, left_holds, right_holds}

-- t is none of some keys, as the last arm of a `match` knows it: the last key outermost
abbrev pub Apart : ℕ → List ℕ → Type 0
Apart t [] = Unit {0}
Apart t (k ∷ ks) = Apart t ks × (t ≡ k → ⊥)

module _ {A : Type 0} (key : A → ℕ) where
  abbrev pub keys_onto : List A → List ℕ → List ℕ
  keys_onto [] ks = ks
  keys_onto (x ∷ xs) ks = keys_onto xs (key x ∷ ks)

  pub find_apart : (t : ℕ) (xs : List A) (ks : List ℕ) → Apart t (keys_onto xs ks) → (find key t xs ≡ none) × Apart t ks
  unfolding find
  find_apart t [] ks h = (refl, h)
  find_apart t (x ∷ xs) ks h =
      let r = find_apart t xs (key x ∷ ks) h in
      (rw (ne_eqb t (key x) r.1.1) r.0, r.1.0)

-- a test that passes of each row passes of the one that is found
abbrev pub every : {A : Type 0} → (A → Bool) → List A → Bool
every test [] = true
every test (x ∷ xs) = test x && every test xs

module _ {A : Type 0} (key : A → ℕ) (test : A → Bool) where
  every_by : (x : A) (xs : List A) (k : ℕ) (y : A) (t : Bool) → T (test x) → (find key k xs ≡ some y → T (test y)) → cond t (some x) (find key k xs) ≡ some y → T (test y)
  every_by x xs k y true h ih e = let q : x ≡ y = cc in rw (← q) h
  every_by x xs k y false h ih e = ih e

  pub find-every : (xs : List A) (k : ℕ) (y : A) → T (every test xs) → find key k xs ≡ some y → T (test y)
  unfolding find
  find-every [] k y t e = absurd (none-some e)
  find-every (x ∷ xs) k y t e =
      every_by x xs k y (eqb k (key x)) (left_holds (test x) (every test xs) t) (λ h. find-every xs k y (right_holds (test x) (every test xs) t) h) e

-- and what holds of each row holds of it
abbrev pub All : {A : Type 0} → (A → Type 0) → List A → Type 0
All P [] = Unit {0}
All P (x ∷ xs) = P x × All P xs

pub in_all : {A : Type 0} (P : A → Type 0) (xs : List A) → All P xs → (x : A) → IsIn x xs → P x
in_all {A = A} P [] h x x4 = elim x4 [ ]
in_all P (y ∷ ys) h x (inl e) = rw e h.0
in_all P (y ∷ ys) h x (inr i) = in_all P ys h.1 x i

-- and a test that passes of each passes of it
pub every_in : {A : Type 0} (test : A → Bool) (xs : List A) → T (every test xs) → (x : A) → IsIn x xs → T (test x)
every_in {A = A} test [] t x x4 = elim x4 [ ]
every_in test (y ∷ ys) t x (inl e) = rw e (left_holds (test y) (every test ys) t)
every_in test (y ∷ ys) t x (inr i) = every_in test ys (right_holds (test y) (every test ys) t) x i

module _ {A : Type 0} (key : A → ℕ) (P : A → Type 0) where
  all_by : (x : A) (xs : List A) (k : ℕ) (y : A) (t : Bool) → P x → (find key k xs ≡ some y → P y) → cond t (some x) (find key k xs) ≡ some y → P y
  all_by x xs k y true h ih e = let q : x ≡ y = cc in rw (← q) h
  all_by x xs k y false h ih e = ih e

  pub find_all : (xs : List A) (k : ℕ) (y : A) → All P xs → find key k xs ≡ some y → P y
  unfolding find
  find_all [] k y h e = absurd (none-some e)
  find_all (x ∷ xs) k y h e = all_by x xs k y (eqb k (key x)) h.0 (λ e. find_all xs k y h.1 e) e

abbrev pub tag_of : Kind → ℕ
tag_of k = k.tag

-- the last arm of a `match` on a tag is no row
pub kind_apart : (m : Mode) (t : ℕ) → Apart t (keys_onto tag_of m.kinds []) → kind_in m t ≡ none
unfolding kind_in
kind_apart m t h = (find_apart tag_of t m.kinds [] h).0

-- an arm of a `match` on a byte that is one of some, and its last arm
pub one_of : (bs : List ℕ) {t n : ℕ} → t ≡ n → is_one_of n bs ≡ is_one_of t bs
one_of bs e = ap (λ (t : ℕ). is_one_of t bs) (sym e)

none_by : (t : ℕ) (bs ks : List ℕ) → Apart t (keys_onto (λ (n : ℕ). n) bs ks) → (is_one_of t bs ≡ false) × Apart t ks
unfolding is_one_of
none_by t [] ks h = (refl, h)
none_by t (b ∷ bs) ks h =
    let r = none_by t bs (b ∷ ks) h in
    (rw (ne_eqb t b r.1.1) r.0, r.1.0)

pub none_of : (bs : List ℕ) (t : ℕ) → Apart t (keys_onto (λ (n : ℕ). n) bs []) → false ≡ is_one_of t bs
none_of bs t h = sym (none_by t bs [] h).0

-- the mode of some rules, as an arm of a `match` on it knows it, and its last arm
abbrev pub number_of : Mode → ℕ
number_of m = m.mode

pub mode_is : (rules : Rules) {n : ℕ} → rules.mode ≡ n → mode_of rules ≡ find number_of n modes
unfolding mode_of
mode_is rules e = ap (λ (n : ℕ). find number_of n modes) e

pub no_mode : (rules : Rules) → Apart rules.mode (keys_onto number_of modes []) → mode_of rules ≡ none
unfolding mode_of
no_mode rules h = (find_apart number_of rules.mode modes [] h).0

-- what holds of each row holds of the one that a mode and a tag tell
pub told_row : (P : Kind → Type 0) → All (λ (m : Mode). All P m.kinds) modes → (rules : Rules) {m : Mode} {k : Kind} (tag : ℕ) → mode_of rules ≡ some m → kind_in m tag ≡ some k → P k
unfolding mode_of kind_in
told_row P h rules {m} {k} tag known row = find_all tag_of P m.kinds tag k (find_all number_of (λ (m : Mode). All P m.kinds) modes rules.mode m h known) row
