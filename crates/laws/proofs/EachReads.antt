-- One thing after another: where each is read from its bytes, all are; and where all were read, each was.
use Prim.Native.Nat.{ℕ, ◌+◌, ◌≤◌}
use mathlib.Core.Bool.{Bool, true}
use mathlib.Core.List.{List, [], ◌∷◌, ◌++◌, append_assoc}
use mathlib.Core.Path.{◌≡◌, refl, ap, sym, ◌∙◌}
use native.Mathlib.Omega.{arith}
use lib.ListN.{length, drop, length-append}
use Rattle.protocol.specs.Each.{Each, bytes_of_each, slots_of_each, able_each, HoldsEach}
use Rattle.protocol.specs.Reading.{Read, got, bad, and_then, read_each}
use Rattle.protocol.proofs.Basics.{zero_one}

module _ {X : Type 0} {C S : X → Type 0} (bytes : (x : X) → C x → List ℕ) (slot : (x : X) → ℕ → C x → S x) (read : (x : X) → List ℕ → ℕ → Read (S x)) where
  -- the bytes of c, between any bytes and post, are read as c
  abbrev pub ReadsBack : (x : X) → C x → List ℕ → Type 0
  ReadsBack x c post = (pre : List ℕ) → read x (pre ++ (bytes x c ++ post)) (length pre) ≡ got (slot x (length pre) c) (length pre + length (bytes x c))

  abbrev pub AllReadBack : (xs : List X) → Each C xs → List ℕ → Type 0
  AllReadBack [] c post = Unit {0}
  AllReadBack (x ∷ xs) c post = ReadsBack x c.0 (bytes_of_each bytes xs c.1 ++ post) × AllReadBack xs c.1 post

  pub each_reads_back : (xs : List X) (c : Each C xs) (pre post : List ℕ) → AllReadBack xs c post → read_each read xs (pre ++ (bytes_of_each bytes xs c ++ post)) (length pre) ≡ got (slots_of_each bytes slot xs (length pre) c) (length pre + length (bytes_of_each bytes xs c))
  unfolding bytes_of_each slots_of_each
  each_reads_back [] c pre post h = ap (got tt) (omega arith)
  each_reads_back (x ∷ xs) c pre post h =
      let b = bytes x c.0 in
      let r = bytes_of_each bytes xs c.1 in
      let q : length (pre ++ b) ≡ length pre + length b = length-append pre b in
      let i = each_reads_back xs c.1 (pre ++ b) post h.1 in
      let l : length pre + length b + length r ≡ length pre + length (b ++ r) = simp length-append (omega arith) in
      rw (append_assoc b r post, h.0 pre, ← append_assoc pre b (r ++ post), ← q, i, q, l) refl

  -- ---- the other direction

  module _ (InRange : (x : X) → C x → Type 0) (able : (x : X) → C x → Bool) where
    -- what was read at p in f, up to q, is the bytes of a right content
    pub record Was (x : X) (f : List ℕ) (p : ℕ) (v : S x) (q : ℕ) : Type 0 where
      pub content : C x
      pub in_range : InRange x content
      pub writable : able x content ≡ true
      pub is : v ≡ slot x p content
      pub split : drop p f ≡ bytes x content ++ drop q f
      pub next : q ≡ p + length (bytes x content)
      pub within : q ≤ length f

    pub record AllWere (xs : List X) (f : List ℕ) (p : ℕ) (v : Each S xs) (q : ℕ) : Type 0 where
      pub content : Each C xs
      pub in_range : HoldsEach InRange xs content
      pub writable : able_each able xs content ≡ true
      pub is : v ≡ slots_of_each bytes slot xs p content
      pub split : drop p f ≡ bytes_of_each bytes xs content ++ drop q f
      pub next : q ≡ p + length (bytes_of_each bytes xs content)
      pub within : q ≤ length f

    module _ (f : List ℕ) where
      -- each of them, wherever it is read
      abbrev pub EachWas : List X → Type 0
      EachWas [] = Unit {0}
      EachWas (x ∷ xs) = ((p q : ℕ) (v : S x) → p ≤ length f → read x f p ≡ got v q → Was x f p v q) × EachWas xs

      rest_by : (x : X) (xs : List X) (p a q : ℕ) (u : S x) (v : Each S (x ∷ xs)) (r : Read (Each S xs)) → read_each read xs f a ≡ r → Was x f p u a → ((w : Each S xs) → read_each read xs f a ≡ got w q → AllWere xs f a w q) → and_then r (λ ss e. got (record { 0 = u; 1 = ss }) e) ≡ got v q → AllWere (x ∷ xs) f p v q
      unfolding bytes_of_each slots_of_each able_each HoldsEach
      rest_by x xs p a q u v (bad k b) r h ih e = absurd (zero_one cc)
      rest_by x xs p a q u v (got w b) r h ih e =
          let eb : b ≡ q = cc in
          let ev : ◌≡◌ {A = Each S (x ∷ xs)} (record { 0 = u; 1 = w }) v = cc in
          let t = ih w (r ∙ ap (got w) eb) in
          let lengths : length (bytes x h.content ++ bytes_of_each bytes xs t.content) ≡ length (bytes x h.content) + length (bytes_of_each bytes xs t.content) = length-append (bytes x h.content) (bytes_of_each bytes xs t.content) in
          record {
            content = record { 0 = h.content; 1 = t.content };
            in_range = (h.in_range, t.in_range);
            writable = rw h.writable t.writable;
            is = sym ev ∙ (λ j. record { 0 = h.is j; 1 = (t.is ∙ ap (λ (n : ℕ). slots_of_each bytes slot xs n t.content) h.next) j });
            split = h.split ∙ rw (t.split, append_assoc (bytes x h.content) (bytes_of_each bytes xs t.content) (drop q f)) refl;
            next = omega (arith, h.next, t.next, lengths);
            within = t.within;
          }

      first_by : (x : X) (xs : List X) (p q : ℕ) (v : Each S (x ∷ xs)) (r : Read (S x)) → read x f p ≡ r → ((a : ℕ) (u : S x) → read x f p ≡ got u a → Was x f p u a) → ((a : ℕ) (w : Each S xs) → a ≤ length f → read_each read xs f a ≡ got w q → AllWere xs f a w q) → and_then r (λ s a. and_then (read_each read xs f a) (λ ss e. got (record { 0 = s; 1 = ss }) e)) ≡ got v q → AllWere (x ∷ xs) f p v q
      first_by x xs p q v (bad k b) r h ih e = absurd (zero_one cc)
      first_by x xs p q v (got u a) r h ih e =
          let w = h a u r in
          rest_by x xs p a q u v (read_each read xs f a) refl w (λ y t. ih a y w.within t) e

      pub each_was : (xs : List X) (p q : ℕ) (v : Each S xs) → p ≤ length f → EachWas xs → read_each read xs f p ≡ got v q → AllWere xs f p v q
      unfolding bytes_of_each slots_of_each able_each HoldsEach
      each_was [] p q v l h e =
          let z : p ≡ q = cc in
          record { content = tt; in_range = tt; writable = refl; is = refl; split = ap (λ (n : ℕ). drop n f) z; next = omega arith; within = omega arith }
      each_was (x ∷ xs) p q v l h e = first_by x xs p q v (read x f p) refl (λ a u r. h.0 p a u l r) (λ a w m r. each_was xs a q w m h.1 r) e
