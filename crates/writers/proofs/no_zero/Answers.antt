-- `writers::no_zero` meets its contract: there is no zero byte exactly where the scan comes to the end.
use Prim.Native.Nat.{ℕ, suc}
use mathlib.Core.Bool.{Bool, true, false, cond, not, ◌&&◌}
use mathlib.Core.List.{List, [], ◌∷◌}
use mathlib.Core.Path.{◌≡◌, refl, ap, ◌∙◌}
use native.Mathlib.Nat.{zero-add}
use lib.Dec.{eqb, leb, leb-suc-suc, leb-suc-zero}
use lib.ListN.{length}
use Rattle.protocol.specs.Bytes.{no_zero}
use Rattle.scan.specs.Zero.{before, zero_from}
use Rattle.writers.proofs.no_zero.Goals as goal

by : (b : Bool) (m n : ℕ) → leb (suc m) (cond b 0 (suc n)) ≡ not b && leb m n
by true m n = leb-suc-zero m
by false m n = leb-suc-suc m n

to_the_end : (s : List ℕ) → leb (length s) (before s) ≡ no_zero s
unfolding no_zero before
to_the_end [] = refl
to_the_end (b ∷ bs) = by (eqb b 0) (length bs) (before bs) ∙ ap (λ x. not (eqb b 0) && x) (to_the_end bs)

pub returns : goal.returns
unfolding zero_from
returns c = let s = c.args.s.now in
    ap (leb (length s)) (c.zero_from.ensures ∙ zero-add (before s)) ∙ to_the_end s
