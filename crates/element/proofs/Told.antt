-- What is promised of a list leaves one answer: no two sorts have the same items.
use mathlib.Core.List.{List, [], ◌∷◌}
use mathlib.Core.Option.{Option, some, none}
use mathlib.Core.Path.{◌≡◌, refl, ap, sym, ◌∙◌}
use Rattle.std.specs.Prelude.{Option as Maybe, Some, None}
use Rattle.protocol.specs.declared.List.{List as ListSlot}
use Rattle.protocol.specs.Elements.{Listed}
use Rattle.protocol.specs.Fields.{Atom, unsigned, signed, one_of, text, value, rest}
use Rattle.element.specs.declared.list.Sort.TheVariants as S
use Rattle.element.specs.declared.list.Sort.{Sort}
use Rattle.element.specs.OneList.{item_of, listed_of}

-- the sort whose items begin with a string, by what follows it
after_text : List Atom → Sort
after_text [] = S.Field
after_text (unsigned w ∷ xs) = S.Field
after_text (signed w ∷ xs) = S.Field
after_text (one_of bs ∷ xs) = S.Field
after_text (text ∷ xs) = S.Pair
after_text (value ∷ xs) = S.Field
after_text (rest ∷ xs) = S.Field

-- the sort whose items have these atoms
sort_by : List Atom → Sort
sort_by [] = S.Oid
sort_by (unsigned w ∷ []) = S.Oid
sort_by (unsigned w ∷ x ∷ xs) = S.ErrorField
sort_by (signed w ∷ xs) = S.Format
sort_by (one_of bs ∷ xs) = S.Oid
sort_by (text ∷ xs) = after_text xs
sort_by (value ∷ xs) = S.Value
sort_by (rest ∷ xs) = S.Oid

sort_back : (sort : Sort) → sort_by (item_of sort).atoms ≡ sort
unfolding sort_by after_text
sort_back S.Oid = refl
sort_back S.Format = refl
sort_back S.Value = refl
sort_back S.Field = refl
sort_back S.ErrorField = refl
sort_back S.Pair = refl

one_list_by : Option Listed → Maybe (Sort × ListSlot)
one_list_by none = None
one_list_by (some x) = Some (sort_by x.item.atoms, x.list)

list_back : (r : Maybe (Sort × ListSlot)) → one_list_by (listed_of r) ≡ r
unfolding one_list_by
list_back (Some (sort, list)) = ap (λ (s : Sort). Some (s, list)) (sort_back sort)
list_back None = refl

pub told_once : (r s : Maybe (Sort × ListSlot)) → listed_of r ≡ listed_of s → r ≡ s
told_once r s e = sym (list_back r) ∙ ap one_list_by e ∙ list_back s
