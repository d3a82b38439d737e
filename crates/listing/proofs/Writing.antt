-- Texts one after the other: what the writers of `pen` leave, where a text's length is its own.
use Prim.Native.Nat.{ℕ}
use mathlib.Core.List.{List, ◌++◌}
use mathlib.Core.Path.{◌≡◌}
use lib.ListN.{length-append}
use Rattle.writers.proofs.Laws as Laws
use Rattle.listing.specs.Text.{Wrote}

-- as ++, to the left
infixl 30 ◌then◌
pub ◌then◌ : {d d' d'' xs ys : List ℕ} {p p' p'' : ℕ} → Wrote d p xs d' p' → Wrote d' p' ys d'' p'' → Wrote d p (xs ++ ys) d'' p''
◌then◌ {xs = xs} {ys = ys} a b = rw (length-append xs ys) (Laws.◌then◌ a b)

pub same : {d xs ys out : List ℕ} {p r : ℕ} → xs ≡ ys → Wrote d p xs out r → Wrote d p ys out r
same e w = rw e at w
