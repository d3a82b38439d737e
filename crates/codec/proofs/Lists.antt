-- A list's count, and lists whose elements all have one size.
use Prim.Native.Nat.{ℕ, ◌+◌, ◌-◌, ◌*◌, ◌≤◌, ◌<◌, ◌^◌}
use mathlib.Core.List.{List}
use mathlib.Core.Path.{◌≡◌, refl, ◌∙◌, sym}
use native.Mathlib.Omega.{arith}
use borrow.Author.Tests.{le-leb, lt-leb}
use lib.IntN.{ℤ, pos, negsuc}
use lib.ListN.{length}
use Rattle.protocol.specs.declared.List.{List as ListSlot}
use Rattle.protocol.specs.declared.Rules.{Rules}
use Rattle.protocol.specs.Bytes.{number_at, signed_of}
use Rattle.protocol.specs.Each.{least_of_each}
use Rattle.protocol.specs.Fields.{Item, item_least, Count, count_of, most, counted}
use Rattle.protocol.specs.Kinds.{oid, format, oids, formats}
use Rattle.protocol.specs.Reading.{Read, got, bad, and_then, read, read_number, pass_items, count_at, read_count, read_counted}
use Rattle.protocol.specs.Refusals.{bad_count, cut}
use Rattle.protocol.proofs.Counts.{count_above, count_back, counted_is, Steady, pass_steady}
use Rattle.codec.specs.Fixed.{read_fixed}
use Rattle.codec.proofs.Numbers.{number_got}

module _ (k : Count) (least : ℕ) (f : List ℕ) (p : ℕ) where
  pub count_short : bad cut p ≡ read_number 2 f p → bad cut p ≡ read_count k least f p
  unfolding read_count
  count_short e = rw (← e) refl

  module _ (n q : ℕ) (e : got n q ≡ read_number 2 f p) where
    by_sign : (z : ℤ) → count_of k n ≡ z → read_count k least f p ≡ count_at least z f p q
    unfolding read_count
    by_sign z s = rw (← e, s) refl

    pub count_negative : n < 256 ^ 2 → most k < n → bad bad_count p ≡ read_count k least f p
    unfolding count_at
    count_negative w h =
        let c = count_above k n w h in
        sym (by_sign (negsuc c.0) c.1)

    pub count_large : n ≤ most k → length f - q < n * least → bad bad_count p ≡ read_count k least f p
    unfolding count_at
    count_large l h = sym (by_sign (pos n) (count_back k n l).1 ∙ rw (lt-leb (n * least) (length f - q) h) refl)

    pub count-got : n ≤ most k → n * least ≤ length f - q → got (record { start = q; count = n }) q ≡ read_count k least f p
    unfolding count_at
    count-got l h = sym (by_sign (pos n) (count_back k n l).1 ∙ rw (le-leb (n * least) (length f - q) h) refl)

-- ---- lists of one size

module _ (rules : Rules) (k : Count) (i : Item) (w : ℕ) (f : List ℕ) (p : ℕ) (st : Steady rules i w f) where
  fixed_by : (r : Read ListSlot) → read_count k w f p ≡ r → and_then r (λ l q. got l (q + l.count * w)) ≡ and_then r (λ l q. and_then (pass_items rules i l.count f q) (λ _ e. got l e))
  fixed_by (got l q) e =
      let c = counted_is k w f p q l e in
      rw (pass_steady rules i w f st l.count q (omega (arith, c.room, c.fits))) refl
  fixed_by (bad n b) e = refl

  pub fixed_list : item_least i ≡ w → read_fixed k w f p ≡ read rules (counted k i) f p
  unfolding read_fixed read_counted
  fixed_list e = rw e (fixed_by (read_count k w f p) refl)

pub oid_steady : (rules : Rules) (f : List ℕ) → Steady rules oid 4 f
oid_steady rules f p h = ((number_at 4 f p, tt), rw (← number_got f p 4 (number_at 4 f p) h refl) refl)

pub format_steady : (rules : Rules) (f : List ℕ) → Steady rules format 2 f
format_steady rules f p h = ((signed_of 2 (number_at 2 f p), tt), rw (← number_got f p 2 (number_at 2 f p) h refl) refl)

pub oid_list : (rules : Rules) (k : Count) (f : List ℕ) (p : ℕ) → read_fixed k 4 f p ≡ read rules (oids k) f p
unfolding item_least least_of_each
oid_list rules k f p = fixed_list rules k oid 4 f p (oid_steady rules f) refl

pub format_list : (rules : Rules) (k : Count) (f : List ℕ) (p : ℕ) → read_fixed k 2 f p ≡ read rules (formats k) f p
unfolding item_least least_of_each
format_list rules k f p = fixed_list rules k format 2 f p (format_steady rules f) refl
