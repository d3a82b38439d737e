-- Runs of stores, one after the other; and what a loop over a list does at each turn.
use Prim.Native.Nat.{ℕ, zero, suc, ◌+◌, ◌-◌, ◌/◌, ◌≤◌, ◌<◌}
use mathlib.Core.List.{List, [], ◌∷◌, ◌++◌, append-nil, append_assoc}
use mathlib.Core.Path.{◌≡◌, refl, ap, ◌∙◌, sym}
use native.Mathlib.Nat.{add-zero, zero-add}
use native.Mathlib.Numerals.{add-one}
use native.Mathlib.Omega.{arith}
use lib.ListN.{length, set, get_or, take, drop, length-append, length-set, drop_of_length-le}
use lib.Seq.{drop-cons, sets, sets-eq, drop-drop, length-take-le, take-add}
use Rattle.protocol.specs.Bytes.{be}
use Rattle.std.specs.Int.{to_be_bytes}
use Rattle.std.proofs.lemmas.List.{take-append-drop, take_more}
use Rattle.writers.specs.Writing.{write, joined, Wrote}
use borrow.Rule.Slice.PartMut.{put_mid}
use mir.Syntax.{w16, w32}

pub write_append : (d : List ℕ) (p : ℕ) (xs ys : List ℕ) → write (write d p xs) (p + length xs) ys ≡ write d p (xs ++ ys)
write_append d p [] ys = rw add-zero refl
write_append d p (x ∷ xs) ys =
    let e : p + suc (length xs) ≡ (p + 1) + length xs = omega arith in
    rw e (write_append (set d p x) (p + 1) xs ys)

pub length-write : (d : List ℕ) (p : ℕ) (xs : List ℕ) → length (write d p xs) ≡ length d
length-write d p [] = refl
length-write d p (x ∷ xs) = length-write (set d p x) (p + 1) xs ∙ length-set d p x

-- as the bytes of fields, to the right; the last of a body is `nothing`
infixr 30 ◌then◌
pub ◌then◌ : {d d' d'' xs ys : List ℕ} {p p' p'' n m : ℕ} → Wrote d p xs n d' p' → Wrote d' p' ys m d'' p'' → Wrote d p (xs ++ ys) (n + m) d'' p''
◌then◌ {d} {d'} {d''} {xs} {ys} {p} {p'} {p''} {n} {m} a b =
    let e : p' ≡ p + length xs = omega (arith, a.size, a.place) in
    record {
      bytes = b.bytes ∙ rw (a.bytes, e) (write_append d p xs ys);
      size = omega (arith, a.size, b.size, length-append xs ys);
      place = omega (arith, a.place, b.place);
    }

pub nothing : {d : List ℕ} {p : ℕ} → Wrote d p [] 0 d p
nothing = record { bytes = refl; size = refl; place = omega arith }

-- what a loop has left to write: one part less
pub turn : {d d' xs e : List ℕ} {p p' n : ℕ} (ys : List ℕ) → Wrote d p xs n d' p' → write d p (xs ++ ys) ≡ e → write d' p' ys ≡ e
turn {d} {d'} {xs} {e} {p} {p'} ys w rest =
    let f : p' ≡ p + length xs = omega (arith, w.size, w.place) in
    rw (w.bytes, f) (write_append d p xs ys ∙ rest)

-- a loop over a list takes its first element, until none is left
pub drop_more {ℓ} : {A : Type ℓ} (l : List A) (i : ℕ) (d : A) → i < length l → drop i l ≡ get_or l i d ∷ drop (i + 1) l
drop_more l i d h = rw add-one (drop-cons l i d h)

pub drop-end {ℓ} : {A : Type ℓ} (l : List A) (i : ℕ) → length l ≤ i → drop i l ≡ []
drop-end l i h = drop_of_length-le l {i = i} h

-- a run of stores at the start, with room for it
write-sets : (d : List ℕ) (p : ℕ) (xs : List ℕ) → write d p xs ≡ sets d p xs
write-sets d p [] = refl
write-sets d p (x ∷ xs) = rw add-one (write-sets (set d p x) (suc p) xs)

pub front : (d xs : List ℕ) → length xs ≤ length d → write d 0 xs ≡ xs ++ drop (length xs) d
front d xs h = write-sets d 0 xs ∙ sets-eq xs d 0 (omega arith) ∙ simp zero-add

-- four bytes that are stored one by one
pub singly : (d : List ℕ) (p w x y z : ℕ) → Wrote d p (w ∷ x ∷ y ∷ z ∷ []) 4 (set (set (set (set d p w) (p + 1) x) (p + 2) y) (p + 3) z) (p + 4)
singly d p w x y z =
    let two : p + 1 + 1 ≡ p + 2 = omega arith in
    let three : p + 2 + 1 ≡ p + 3 = omega arith in
    record { bytes = rw (two, three) refl; size = refl; place = refl }

-- a part of the output that bytes were copied over
pub copied : (d : List ℕ) (p : ℕ) (xs : List ℕ) {ys : List ℕ} → p + length xs ≤ length d → ys ≡ xs → Wrote d p xs (length xs) (put_mid p (p + length xs - p) d ys) (p + length xs)
copied d p xs h e =
    let n : p + length xs - p ≡ length xs = omega arith in
    record {
      bytes = rw (e, n, drop-drop (length xs) p d) (sym (write-sets d p xs ∙ sets-eq xs d p h ∙ append_assoc (take p d) xs (drop (p + length xs) d)));
      size = refl;
      place = refl;
    }

-- ---- bytes that are stored twice

set_twice : (l : List ℕ) (i a : ℕ) → set (set l i a) i a ≡ set l i a
set_twice [] i a = refl
set_twice (x ∷ xs) zero a = refl
set_twice (x ∷ xs) (suc i) a = ap (λ (r : List ℕ). x ∷ r) (set_twice xs i a)

set_swap : (l : List ℕ) (i j a b : ℕ) → i < j → set (set l j b) i a ≡ set (set l i a) j b
set_swap [] i j a b h = refl
set_swap (x ∷ xs) i zero a b h = absurd (omega arith)
set_swap (x ∷ xs) zero (suc j) a b h = refl
set_swap (x ∷ xs) (suc i) (suc j) a b h = ap (λ (r : List ℕ). x ∷ r) (set_swap xs i j a b (omega arith))

set_before : (d : List ℕ) (p q x : ℕ) (ys : List ℕ) → q < p → set (write d p ys) q x ≡ write (set d q x) p ys
set_before d p q x [] h = refl
set_before d p q x (y ∷ ys) h =
    set_before (set d p y) (p + 1) q x ys (omega arith) ∙ ap (λ (e : List ℕ). write e (p + 1) ys) (set_swap d q p x y h)

-- a run of stores, after one of its first part
over : (d : List ℕ) (p : ℕ) (xs : List ℕ) (k : ℕ) → write (write d p (take k xs)) p xs ≡ write d p xs
over d p xs zero = refl
over d p [] (suc k) = refl
over d p (x ∷ xs) (suc k) =
    let e : set (write (set d p x) (p + 1) (take k xs)) p x ≡ write (set d p x) (p + 1) (take k xs) =
    set_before (set d p x) (p + 1) p x (take k xs) (omega arith) ∙ ap (λ (l : List ℕ). write l (p + 1) (take k xs)) (set_twice d p x) in
    rw e (over (set d p x) (p + 1) xs k)

-- the first i bytes, and then n bytes from i on
parted : (d s : List ℕ) (at i n : ℕ) → i ≤ length s → write (write d at (take i s)) (at + i) (take n (drop i s)) ≡ write d at (take (i + n) s)
parted d s at i n h =
    let e : at + i ≡ at + length (take i s) = omega (arith, length-take-le i s h) in
    rw (e, take-add i n s) (write_append d at (take i s) (take n (drop i s)))

-- the first i bytes and then the last, which may be among them
ends : (d s : List ℕ) (at i j : ℕ) → j ≤ i → i ≤ length s → write (write d at (take i s)) (at + j) (drop j s) ≡ write d at s
ends d s at i j low h =
    let m = write d at (take j s) in
    let e : at + j ≡ at + length (take j s) = omega (arith, length-take-le j s (omega arith)) in
    let f : j + (i - j) ≡ i = omega arith in
    let g : write m (at + j) (take (i - j) (drop j s)) ≡ write d at (take i s) = rw f at (parted d s at j (i - j) (omega arith)) in
    let k : write m (at + j) (drop j s) ≡ write d at s = rw (e, write_append d at (take j s) (drop j s), take-append-drop j s) refl in
    rw (← g) (over m (at + j) (drop j s) (i - j) ∙ k)

-- the first i bytes, and then n more
pub further : {d mid out block : List ℕ} {at i q n next : ℕ} (s : List ℕ) → Wrote d at (take i s) i mid q → block ≡ take n (drop i s) → Wrote mid q block n out next
    → i + n ≤ length s → Wrote d at (take (i + n) s) (i + n) out next
further {d} {mid} {out} {block} {at} {i} {q} {n} {next} s v e w h =
    let f : q ≡ at + i = v.place in
    let b : out ≡ write (write d at (take i s)) (at + i) (take n (drop i s)) = rw (v.bytes, f, e) at w.bytes in
    record {
      bytes = b ∙ parted d s at i n (omega arith);
      size = length-take-le (i + n) s h;
      place = omega (arith, w.place, v.place);
    }

-- the first i bytes and the last n, of which each is stored by one or both
pub overlaid : {d mid out last : List ℕ} {at i q n next : ℕ} (s : List ℕ) → Wrote d at (take i s) i mid q → last ≡ drop (length s - n) s
    → Wrote mid (at + (length s - n)) last n out next → n ≤ length s → length s - n ≤ i → i ≤ length s → Wrote d at s (length s) out next
overlaid {d} {mid} {out} {last} {at} {i} {q} {n} s v f w low meets high =
    let b : out ≡ write mid (at + (length s - n)) (drop (length s - n) s) = rw f at w.bytes in
    let g : write mid (at + (length s - n)) (drop (length s - n) s) ≡ write d at s = rw v.bytes (ends d s at i (length s - n) meets high) in
    record { bytes = b ∙ g; size = refl; place = omega (arith, w.place) }

-- the first n bytes and the last n
pub ended : {d mid out first last : List ℕ} {at q n next : ℕ} (s : List ℕ) → first ≡ take n s → last ≡ drop (length s - n) s → Wrote d at first n mid q
    → Wrote mid (at + (length s - n)) last n out next → n ≤ length s → length s ≤ n + n → Wrote d at s (length s) out next
ended s e f v w low high = overlaid s (rw e at v) f w low (omega arith) low

-- ---- the same bytes in other words

pub wrote_as : {d bs xs out : List ℕ} {p n m next : ℕ} → Wrote d p bs n out next → bs ≡ xs → n ≡ m → Wrote d p xs m out next
wrote_as w e f = rw (← e, ← f) w

-- a number's, as the library has them

pub be2 : (x : ℕ) → to_be_bytes w16 x ≡ be 2 x
unfolding be
be2 x = refl

pub be4 : (x : ℕ) → to_be_bytes w32 x ≡ be 4 x
unfolding be
be4 x =
    let second : x / 256 / 256 ≡ x / 65536 = omega arith in
    let third : x / 256 / 256 / 256 ≡ x / 16777216 = omega arith in
    rw (third, second) refl

-- ---- the elements of a list, one after the other

joined-append : {A : Type 0} (f : A → List ℕ) (xs ys : List A) → joined f (xs ++ ys) ≡ joined f xs ++ joined f ys
joined-append f [] ys = refl
joined-append f (x ∷ xs) ys = ap (λ (l : List ℕ). f x ++ l) (joined-append f xs ys) ∙ sym (append_assoc (f x) (joined f xs) (joined f ys))

pub joined_more : {A : Type 0} (f : A → List ℕ) (xs : List A) (i : ℕ) (y : A) → y ≡ get_or xs i y → i < length xs → joined f (take i xs) ++ f y ≡ joined f (take (i + 1) xs)
joined_more {A} f xs i y e h =
    let more : take (i + 1) xs ≡ take i xs ++ y ∷ [] = take_more xs i y h ∙ ap (λ (z : A). take i xs ++ z ∷ []) (sym e) in
    rw (more, joined-append f (take i xs) (y ∷ []), append-nil (f y)) refl
