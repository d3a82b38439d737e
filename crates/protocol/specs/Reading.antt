-- Reading at a place of a frame, from left to right (docs/FORMAT.md 5). The frame is the list of its bytes, so nothing past its end can be read.
use Rattle.std.specs.Prelude.{ℕ, zero, suc, ◌+◌, ◌-◌, ◌*◌, cond, List, [], ◌∷◌, leb, eqb, ℤ, pos, negsuc, length, drop}
use Rattle.std.proofs.Math.Option.{Option, some, none}
use Rattle.protocol.specs.declared.List.{List as ListSlot}
use Rattle.protocol.specs.declared.Rules.{Rules}
use Rattle.protocol.specs.declared.Span.{Span}
use Rattle.protocol.specs.Bytes.{number_at, signed_of, is_one_of}
use Rattle.protocol.specs.Each.{Each}
use Rattle.protocol.specs.Fields.{Atom, unsigned, signed, one_of, text, value, rest, AtomSlot, Item, item_least, Count, count_of, Field, one, counted, ended, Slot}
use Rattle.protocol.specs.Refusals.{bad_count, cut, not_allowed}

-- what is read and the next place, or a refusal's number and place
pub data Read (X : Type 0) : Type 0 where
  got : X → ℕ → Read X
  bad : ℕ → ℕ → Read X

abbrev pub and_then : {X Y : Type 0} → Read X → (X → ℕ → Read Y) → Read Y
and_then (got x next) then = then x next
and_then (bad number place) then = bad number place

-- one after the other; the first fault decides
abbrev pub read_each : {X : Type 0} {S : X → Type 0} → ((x : X) → List ℕ → ℕ → Read (S x)) → (xs : List X) → List ℕ → ℕ → Read (Each S xs)
read_each read [] f p = got tt p
read_each read (x ∷ xs) f p = and_then (read x f p) (λ s q. and_then (read_each read xs f q) (λ ss e. got (record { 0 = s; 1 = ss }) e))

-- ---- atoms

unfoldable pub read_number : ℕ → List ℕ → ℕ → Read ℕ
read_number w f p = cond (leb (p + w) (length f)) (got (number_at w f p) (p + w)) (bad cut p)

abbrev pub read_signed : ℕ → List ℕ → ℕ → Read ℤ
read_signed w f p = and_then (read_number w f p) (λ n q. got (signed_of w n) q)

abbrev pub read_one_of : List ℕ → List ℕ → ℕ → Read ℕ
read_one_of bs f p = and_then (read_number 1 f p) (λ b q. cond (is_one_of b bs) (got b q) (bad not_allowed p))

-- how many bytes stand before the first zero, if there is one
unfoldable pub one_more : Option ℕ → Option ℕ
one_more none = none
one_more (some n) = some (suc n)

unfoldable pub zero_in : List ℕ → Option ℕ
zero_in [] = none
zero_in (b ∷ bs) = cond (eqb b 0) (some 0) (one_more (zero_in bs))

unfoldable pub text_at : ℕ → Option ℕ → Read Span
text_at p none = bad cut p
text_at p (some n) = got (record { start = p; len = n }) (p + n + 1)

unfoldable pub read_text : List ℕ → ℕ → Read Span
read_text f p = text_at p (zero_in (drop p f))

unfoldable pub value_at : ℤ → List ℕ → ℕ → ℕ → Read (Option Span)
value_at (pos n) f p q = cond (leb (q + n) (length f)) (got (some (record { start = q; len = n })) (q + n)) (bad cut p)
value_at (negsuc zero) f p q = got none q
value_at (negsuc (suc n)) f p q = bad not_allowed p

unfoldable pub read_value : List ℕ → ℕ → Read (Option Span)
read_value f p = and_then (read_signed 4 f p) (λ z q. value_at z f p q)

abbrev pub read_rest : List ℕ → ℕ → Read Span
read_rest f p = got (record { start = p; len = length f - p }) (length f)

abbrev pub read_atom : Rules → (a : Atom) → List ℕ → ℕ → Read (AtomSlot a)
read_atom rules (unsigned w) f p = read_number w f p
read_atom rules (signed w) f p = read_signed w f p
read_atom rules (one_of bs) f p = read_one_of bs f p
read_atom rules text f p = read_text f p
read_atom rules value f p = read_value f p
read_atom rules rest f p = read_rest f p

-- ---- items and lists

abbrev pub read_item : Rules → (i : Item) → List ℕ → ℕ → Read (Each AtomSlot i.atoms)
read_item rules i f p = read_each (read_atom rules) i.atoms f p

-- past n items
unfoldable pub pass_items : Rules → Item → ℕ → List ℕ → ℕ → Read (Unit {0})
pass_items rules i zero f p = got tt p
pass_items rules i (suc n) f p = and_then (read_item rules i f p) (λ s q. pass_items rules i n f q)

-- a count is refused when negative, or when that many of the smallest elements exceed the bytes left after it
unfoldable pub count_at : ℕ → ℤ → List ℕ → ℕ → ℕ → Read ListSlot
count_at least (pos n) f p q = cond (leb (n * least) (length f - q)) (got (record { start = q; count = n }) q) (bad bad_count p)
count_at least (negsuc n) f p q = bad bad_count p

unfoldable pub read_count : Count → ℕ → List ℕ → ℕ → Read ListSlot
read_count k least f p = and_then (read_number 2 f p) (λ n q. count_at least (count_of k n) f p q)

-- the count, then each item
unfoldable pub read_counted : Rules → Count → Item → List ℕ → ℕ → Read ListSlot
read_counted rules k i f p = and_then (read_count k (item_least i) f p) (λ l q. and_then (pass_items rules i l.count f q) (λ _ e. got l e))

-- items until a zero byte stands in place of one, n before them. Each turn passes a byte, so as many turns as there are bytes
-- from p on are enough
unfoldable pub ended_from : Rules → Item → ℕ → List ℕ → ℕ → ℕ → Read ℕ
ended_from rules i zero f p n = bad cut p
ended_from rules i (suc turns) f p n =
    and_then (read_number 1 f p)
    (λ b q. cond (eqb b 0) (got n q) (and_then (read_item rules i f p) (λ s e. ended_from rules i turns f e (suc n))))

unfoldable pub read_ended : Rules → Item → List ℕ → ℕ → Read ListSlot
read_ended rules i f p = and_then (ended_from rules i (length f) f p 0) (λ n e. got (record { start = p; count = n }) e)

-- ---- fields

abbrev pub read : Rules → (x : Field) → List ℕ → ℕ → Read (Slot x)
read rules (one a) f p = read_atom rules a f p
read rules (counted k i) f p = read_counted rules k i f p
read rules (ended i) f p = read_ended rules i f p
