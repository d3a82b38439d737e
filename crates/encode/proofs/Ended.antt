-- A list that ends in a zero byte: its items, and then that byte.
use Prim.Native.Nat.{ℕ, ◌+◌}
use mathlib.Core.List.{List, [], ◌∷◌}
use mathlib.Core.Option.{Option, some}
use mathlib.Core.Path.{◌≡◌}
use native.Mathlib.Omega.{arith}
use lib.ListN.{length}
use Rattle.protocol.specs.Fields.{Item, ItemContent, ended, bytes, items_bytes}
use Rattle.writers.specs.Writing.{write, Wrote}
use Rattle.writers.proofs.Laws.{◌then◌}
use Rattle.encode.specs.Writing.{WroteGiven}

pub ended_field : {d mid out xs : List ℕ} {p n at next : ℕ} (i : Item) (given : Option (List (ItemContent i)))
    → ((cs : List (ItemContent i)) → given ≡ some cs → (items_bytes i cs ≡ xs) × (length xs ≡ n))
    → mid ≡ write d p xs → at ≡ p + n → Wrote mid at (0 ∷ []) 1 out next → WroteGiven (ended i) given d p (n + 1) out next
unfolding bytes
ended_field {d} {mid} {xs = xs} {p} {n} {at} i given are e is_at w = record {
  field = λ cs is.
      let v = are cs is in
      let u : Wrote d p xs n mid at = record { bytes = e; size = v.1; place = is_at } in
      rw v.0 (u then w);
  place = omega (arith, w.place);
}
