-- An item of a list, behind those that were passed, and where the items of one size stand.
use Rattle.std.specs.Prelude.{ℕ, List, ◌<◌}
use Rattle.std.specs.Prelude.{Option as Maybe, Some}
use Rattle.std.proofs.Common.{◌≡◌, refl, ap, ◌∙◌}
use native.Mathlib.Omega.{arith}
use Rattle.protocol.specs.declared.Element.{Element}
use Rattle.protocol.specs.declared.List.{List as ListSlot}
use Rattle.protocol.specs.declared.Rules.{Rules}
use Rattle.protocol.specs.Each.{Each}
use Rattle.protocol.specs.Elements.{read_item_at, element_by}
use Rattle.protocol.specs.Fields.{AtomSlot, Item}
use Rattle.protocol.specs.Found as F
use Rattle.protocol.specs.Reading.{Read, got, bad, and_then, read_item, pass_items}
use Rattle.element.specs.declared.list.Sort.TheVariants as S
use Rattle.element.specs.declared.list.Sort.{Sort}
use Rattle.element.specs.OneList.{FitsAt, FitsSort, Fits}

module _ (rules : Rules) (i : Item) (f : List ℕ) (p n q : ℕ) (passed : got tt q ≡ pass_items rules i n f p) where
  made : (r : Read (Each AtomSlot i.atoms)) → element_by (λ e. e) (and_then r (λ s q. got (i.element s) q)) ≡ element_by i.element r
  unfolding element_by
  made (got s q) = refl
  made (bad number place) = refl

  answered : (r : Read Element) → r ≡ and_then (read_item rules i f q) (λ s q. got (i.element s) q) → element_by (λ e. e) r ≡ element_by i.element (read_item_at rules i n f p)
  answered r h = rw (← passed) (ap (element_by (λ e. e)) h ∙ made (read_item rules i f q))

  pub item_is : {e : Element} {end : ℕ} → got e end ≡ and_then (read_item rules i f q) (λ s q. got (i.element s) q) → F.Is e ≡ element_by i.element (read_item_at rules i n f p)
  unfolding element_by
  item_is {e} {end} = answered (got e end)

  pub item_refused : {number place : ℕ} → bad number place ≡ and_then (read_item rules i f q) (λ s q. got (i.element s) q) → F.Refused number place ≡ element_by i.element (read_item_at rules i n f p)
  unfolding element_by
  item_refused {number} {place} = answered (bad number place)

-- ---- where the items of one size stand

pub fits_at : (f : List ℕ) (l : ListSlot) (n : ℕ) (list : Maybe (Sort × ListSlot)) (sort : Sort) → list ≡ Some (sort, l) → n < l.count → Fits f list → FitsAt f l.start n sort
fits_at f l n list sort e h w = by sort (rw e at w)
  where
    by : (sort : Sort) → FitsSort f l sort → FitsAt f l.start n sort
    by S.Oid w = omega arith
    by S.Format w = omega arith
    by S.Value w = tt
    by S.Field w = tt
    by S.ErrorField w = tt
    by S.Pair w = tt
