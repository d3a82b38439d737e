-- What a loop over a row's values does at each turn: it stores one entry, and what is left to store stays the same.
use Prim.Native.Nat.{ℕ, zero, suc, ◌+◌, ◌-◌, ◌≤◌, ◌<◌}
use mathlib.Core.Bool.{Bool, true, false, cond}
use mathlib.Core.List.{List, [], ◌∷◌, map}
use mathlib.Core.Option.{Option, some, none}
use mathlib.Core.Path.{◌≡◌, refl, ap, ◌∙◌}
use native.Mathlib.Nat.{zero-add}
use native.Mathlib.Omega.{arith}
use borrow.Author.Tests.{ltb-true}
use lib.Dec.{ltb}
use lib.IntN.{pos, negsuc}
use lib.ListN.{length, set, length-map}
use lib.Signed.{mag}
use lib.Seq.{sets, sets-eq}
use Rattle.protocol.specs.declared.Span.{Span}
use Rattle.protocol.specs.Bytes.{longest}
use Rattle.protocol.specs.Reading.{Read, got, bad, read_value}
use Rattle.protocol.proofs.Basics.{zero_one}
use Rattle.std.proofs.Common.{Option as Maybe, Some, None}
use Rattle.reader.specs.declared.row.Entry.{Entry}
use Rattle.reader.specs.Row.{Place, length_word, entry_of, places_by, places_from, over}

-- ---- an entry's length fits a signed word

word_fits : (n : ℕ) (t : Bool) → ltb n (suc longest) ≡ t → mag (cond t (pos n) (pos longest)) < suc longest
word_fits n true h = ltb-true n (suc longest) h
word_fits n false h = omega arith

pub length_fits : (r : Read (Option Span)) (x : Entry) → Some x ≡ entry_of r → mag x.length < suc longest
unfolding entry_of
length_fits (got none q) x e = let is : x.length ≡ negsuc 0 = cc in rw is (omega arith)
length_fits (got (some s) q) x e = let is : x.length ≡ length_word s.len = cc in rw is (word_fits s.len (ltb s.len (suc longest)) refl)
length_fits (bad number place) x e = absurd (zero_one cc)

-- ---- the entries that are left

few_by : (e : Maybe Entry) (rest : ℕ → List Place) (n : ℕ) → ((q : ℕ) → length (rest q) ≤ n) → length (places_by e rest) ≤ suc n
few_by (Some e) rest n h = let l = h e.next in omega arith
few_by None rest n h = omega arith

-- there are no more entries than values
few : (n : ℕ) (f : List ℕ) (p : ℕ) → length (places_from n f p) ≤ n
unfolding places_from
few zero f p = omega arith
few (suc n) f p = few_by (entry_of (read_value f p)) (places_from n f) n (few n f)

module _ {A : Type 0} (part : Place → A) (f : List ℕ) where
  -- what is left to store of n values from p on
  abbrev pub left : ℕ → ℕ → List A
  left n p = map part (places_from n f p)

  pub begun : (d : List A) (count p : ℕ) → sets d 0 (left (count - 0) p) ≡ sets d 0 (left count p)
  begun d count p =
      let e : count - 0 ≡ count = omega arith in
      ap (λ (n : ℕ). sets d 0 (left n p)) e

  pub turn : (d e : List A) (i count p : ℕ) (x : Entry) → i < count → Some x ≡ entry_of (read_value f p) → sets d i (left (count - i) p) ≡ e
      → sets (set d i (part (record { start = x.start; length = x.length }))) (i + 1) (left (count - (i + 1)) x.next) ≡ e
  unfolding places_from
  turn d e i count p x h is rest =
      let n : count - i ≡ suc (count - (i + 1)) = omega arith in
      let one : left (count - i) p ≡ part (record { start = x.start; length = x.length }) ∷ left (count - (i + 1)) x.next = rw (n, ← is) refl in
      let e : i + 1 ≡ suc i = omega arith in
      ap (λ (k : ℕ). sets (set d i (part (record { start = x.start; length = x.length }))) k (left (count - (i + 1)) x.next)) e ∙ rw one at rest

  pub stopped : (d e : List A) (i count p : ℕ) → i < count → None ≡ entry_of (read_value f p) → sets d i (left (count - i) p) ≡ e → d ≡ e
  unfolding places_from
  stopped d e i count p h is rest =
      let n : count - i ≡ suc (count - (i + 1)) = omega arith in
      let none : left (count - i) p ≡ [] = rw (n, ← is) refl in
      rw none at rest

  pub ended : (d e : List A) (i count p : ℕ) → count ≤ i → sets d i (left (count - i) p) ≡ e → d ≡ e
  unfolding places_from
  ended d e i count p h rest =
      let n : count - i ≡ 0 = omega arith in
      rw n at rest

  pub laid : (d : List A) (count p : ℕ) → count ≤ length d → sets d 0 (left count p) ≡ over (left count p) d
  laid d count p h =
      let l = few count f p in
      sets-eq (left count p) d 0 (simp length-map (omega arith)) ∙ simp zero-add
