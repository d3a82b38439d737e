-- Which lists are of values: a test over all rows finds none but Bind's and DataRow's, and these two are opened.
use Prim.Native.Nat.{ℕ, zero, suc}
use mathlib.Core.Bool.{Bool, true, false, not, ◌&&◌, false≢true}
use mathlib.Core.List.{List, [], ◌∷◌}
use mathlib.Core.Logic.{◌⊎◌, inl, inr}
use mathlib.Core.Option.{Option, some, none}
use mathlib.Core.Path.{◌≡◌, refl, ap, sym, ◌∙◌}
use borrow.Author.Tests.{not-true}
use Rattle.protocol.specs.Fields.{Atom, unsigned, signed, one_of, text, value, rest, Item, Field, one, counted, ended}
use Rattle.protocol.specs.Kinds.{Kind, Mode, modes, bind, data_row, nullable, the_table}
use Rattle.protocol.proofs.Find.{All, in_all}
use Rattle.laws.specs.ElementStatements.{HasValues}
use Rattle.laws.specs.Items.{list_item}
use Rattle.laws.specs.Statements.{the_element_call}
use Rattle.laws.proofs.ElementCalls.{empty_starts}
use Rattle.laws.proofs.Items.{both}
use Rattle.by_kind.specs.Values.{HasSecondForm, SecondForm}

-- ---- lists of anything else

abbrev is_value_atom : Atom → Bool
is_value_atom (unsigned w) = false
is_value_atom (signed w) = false
is_value_atom (one_of bs) = false
is_value_atom text = false
is_value_atom value = true
is_value_atom rest = false

abbrev is_value : List Atom → Bool
is_value [] = false
is_value (a ∷ []) = is_value_atom a
is_value (a ∷ b ∷ xs) = false

is_value_in : Option Item → Bool
is_value_in none = false
is_value_in (some i) = is_value i.atoms

not_values : (list : Option Item) → is_value_in list ≡ false → list ≡ some nullable → ⊥
unfolding is_value_in
not_values list other e = false≢true (sym other ∙ ap is_value_in e)

-- no list of a body is of values
abbrev no_values : List Field → Bool
no_values [] = true
no_values (one a ∷ xs) = no_values xs
no_values (counted k i ∷ xs) = not (is_value i.atoms) && no_values xs
no_values (ended i ∷ xs) = not (is_value i.atoms) && no_values xs

no_values_lem : (xs : List Field) → no_values xs ≡ true → (l : ℕ) → is_value_in (list_item xs l) ≡ false
unfolding list_item is_value_in
no_values_lem [] h l = refl
no_values_lem (one a ∷ xs) h l = no_values_lem xs h l
no_values_lem (counted k i ∷ xs) h zero = not-true _ (both (not (is_value i.atoms)) (no_values xs) h).0
no_values_lem (counted k i ∷ xs) h (suc l) = no_values_lem xs (both (not (is_value i.atoms)) (no_values xs) h).1 l
no_values_lem (ended i ∷ xs) h zero = not-true _ (both (not (is_value i.atoms)) (no_values xs) h).0
no_values_lem (ended i ∷ xs) h (suc l) = no_values_lem xs (both (not (is_value i.atoms)) (no_values xs) h).1 l

-- ---- of every row

abbrev Told : Kind → Type 0
Told k = (no_values k.body ≡ true) ⊎ ((k ≡ bind) ⊎ (k ≡ data_row))

all_told : All (λ (m : Mode). All Told m.kinds) modes
unfolding the_table
all_told = search (inl, inr, tt) depth 60 fits 5000

bind_values : (l : ℕ) → HasValues bind l → l ≡ 1
unfolding bind list_item is_value_in
bind_values zero h = absurd (not_values _ refl h)
bind_values (suc zero) h = refl
bind_values (suc (suc zero)) h = absurd (not_values _ refl h)
bind_values (suc (suc (suc l))) h = absurd (not_values _ refl h)

row_values : (l : ℕ) → HasValues data_row l → l ≡ 0
unfolding data_row list_item is_value_in
row_values zero h = refl
row_values (suc l) h = absurd (not_values _ refl h)

-- a list of values is one of the two
told : (k : Kind) → Told k → (l : ℕ) → HasValues k l → HasSecondForm k l
told k (inl others) l h = absurd (not_values _ (no_values_lem k.body others l) h)
told k (inr (inl e)) l h = inl (e, bind_values l (rw e at h))
told k (inr (inr e)) l h = inr (e, row_values l (rw e at h))

-- and the two are lists of values
are_values : (k : Kind) (l : ℕ) → HasSecondForm k l → HasValues k l
unfolding bind data_row list_item
are_values k l (inl (e, q)) = rw (e, q) refl
are_values k l (inr (e, q)) = rw (e, q) refl

pub second_form : SecondForm the_element_call
second_form = record {
  lists = λ m i k j l.
      let row = in_all Told m.kinds (in_all (λ (m : Mode). All Told m.kinds) modes all_told m i) k j in
      (told k row l, are_values k l);
  others = λ rules m k c t stand l n w other.
      let row = in_all Told m.kinds (in_all (λ (m : Mode). All Told m.kinds) modes all_told m w.known) k w.kind in
      empty_starts.others rules m k c t stand l n w (λ h. other (told k row l h));
}
