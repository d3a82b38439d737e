-- Past one item, by what was made of it.
use Rattle.std.specs.Prelude.{ℕ, ◌<◌, List}
use Rattle.std.proofs.Common.{◌≡◌, refl, ap, ◌∙◌}
use Rattle.protocol.specs.declared.Rules.{Rules}
use Rattle.protocol.specs.Each.{Each}
use Rattle.protocol.specs.Fields.{AtomSlot, Item}
use Rattle.protocol.specs.Reading.{Read, got, bad, and_then, read_item, pass_items}
use Rattle.protocol.proofs.Ended.{Grows, passed_grows}

module _ (rules : Rules) (i : Item) (f : List ℕ) (p : ℕ) {X : Type 0} (make : Each AtomSlot i.atoms → X) where
  abbrev forgotten : Read X → Read (Unit {0})
  forgotten (got x q) = got tt q
  forgotten (bad k q) = bad k q

  by : (r : Read (Each AtomSlot i.atoms)) → forgotten (and_then r (λ s q. got (make s) q)) ≡ and_then r (λ s q. pass_items rules i 0 f q)
  unfolding pass_items
  by (got s q) = refl
  by (bad k q) = refl

  passed_by : (r : Read X) → r ≡ and_then (read_item rules i f p) (λ s q. got (make s) q) → forgotten r ≡ pass_items rules i 1 f p
  unfolding pass_items
  passed_by r e = ap forgotten e ∙ by (read_item rules i f p)

  pub passed : {x : X} {q : ℕ} → got x q ≡ and_then (read_item rules i f p) (λ s q. got (make s) q) → got tt q ≡ pass_items rules i 1 f p
  passed {x} {q} = passed_by (got x q)

  pub not_passed : {k q : ℕ} → bad k q ≡ and_then (read_item rules i f p) (λ s q. got (make s) q) → bad k q ≡ pass_items rules i 1 f p
  not_passed {k} {q} = passed_by (bad k q)

  pub further : Grows rules i f → {x : X} {q : ℕ} → got x q ≡ and_then (read_item rules i f p) (λ s q. got (make s) q) → p < q
  further on e = passed_grows rules i f on p _ (passed e)
