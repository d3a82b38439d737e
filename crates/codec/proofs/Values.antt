-- A value, from its length word.
use Prim.Native.Nat.{ℕ, suc, ◌+◌, ◌-◌, ◌≤◌, ◌<◌}
use mathlib.Core.List.{List}
use mathlib.Core.Option.{some, none}
use mathlib.Core.Path.{◌≡◌, refl, ap, ◌∙◌, sym}
use native.Mathlib.Omega.{arith}
use borrow.Author.Tests.{le-leb, lt-leb}
use lib.IntN.{ℤ, pos, negsuc}
use lib.ListN.{length}
use Rattle.protocol.specs.Bytes.{longest, signed_of}
use Rattle.protocol.specs.Reading.{got, bad, read_number, value_at, read_value}
use Rattle.protocol.specs.Refusals.{cut, not_allowed}
use Rattle.protocol.proofs.Numbers.{lower, upper}

pub value_short : (f : List ℕ) (p : ℕ) → bad cut p ≡ read_number 4 f p → bad cut p ≡ read_value f p
unfolding read_value
value_short f p e = rw (← e) refl

module _ (f : List ℕ) (p n q : ℕ) (e : got n q ≡ read_number 4 f p) where
  by_sign : (z : ℤ) → signed_of 4 n ≡ z → read_value f p ≡ value_at z f p q
  unfolding read_value
  by_sign z s = rw (← e, s) refl

  pub value_null : n ≡ 4294967295 → got none q ≡ read_value f p
  unfolding value_at
  value_null h = sym (by_sign (negsuc 0) (upper 4 n (omega arith) ∙ ap negsuc (omega arith)))

  pub value_below : longest < n → n < 4294967295 → bad not_allowed p ≡ read_value f p
  unfolding value_at
  value_below l h = sym (by_sign (negsuc (suc (4294967294 - n))) (upper 4 n (omega arith) ∙ ap negsuc (omega arith)))

  pub value_cut : n ≤ longest → length f < q + n → bad cut p ≡ read_value f p
  unfolding value_at
  value_cut l h = sym (by_sign (pos n) (lower 4 n (omega arith)) ∙ rw (lt-leb (q + n) (length f) h) refl)

  pub value_got : n ≤ longest → q + n ≤ length f → got (some (record { start = q; len = n })) (q + n) ≡ read_value f p
  unfolding value_at
  value_got l h = sym (by_sign (pos n) (lower 4 n (omega arith)) ∙ rw (le-leb (q + n) (length f) h) refl)
