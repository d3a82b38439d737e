-- Writers that look for their room: what the test tells, and one write after the other.
use Prim.Native.Nat.{ℕ, ◌+◌, ◌≤◌}
use mathlib.Core.Bool.{Bool, true, false, ◌&&◌, true≢false}
use mathlib.Core.List.{List, [], ◌++◌}
use mathlib.Core.Path.{◌≡◌, refl, ap, ◌∙◌, sym}
use native.Mathlib.Omega.{arith}
use borrow.Author.Tests.{leb-true, le-leb}
use lib.Dec.{leb}
use lib.ListN.{length}
use Rattle.protocol.specs.Kinds.{large_frame}
use Rattle.writers.specs.Writing.{Wrote, Put}
use Rattle.protocol.proofs.Basics.{and_left, and_right}
use Rattle.writers.proofs.Laws.{◌then◌, nothing, length-write}

-- what the test tells
pub has_room : (may : Bool) (p n : ℕ) {l : ℕ} {r : Bool} → r ≡ may && leb (p + n) l → r ≡ true → (may ≡ true) × (p + n ≤ l)
has_room may p n {l} e t = let f = sym e ∙ t in (and_left may (leb (p + n) l) f, leb-true _ _ (and_right may f))

module _ {r : Bool} {d : List ℕ} {p n : ℕ} (e : r ≡ leb (p + n) (length d)) where
  pub put : {xs out : List ℕ} {next : ℕ} → r ≡ true → Wrote d p xs n out next → Put true d p xs n out next
  put t w = record {
    fits = λ _ _. w;
    short = λ f. absurd (true≢false (sym t ∙ e ∙ f));
    near = omega (arith, w.place);
  }

  pub kept : {xs : List ℕ} → r ≡ false → Put true d p xs n d p
  kept f = record {
    fits = λ _ h. absurd (true≢false (sym (le-leb (p + n) (length d) h) ∙ sym e ∙ f));
    short = λ _. (refl, refl);
    near = omega arith;
  }

pub put_as : {may : Bool} {d bs xs out : List ℕ} {p n m next : ℕ} → Put may d p bs n out next → bs ≡ xs → n ≡ m → Put may d p xs m out next
put_as w e f = rw (← e, ← f) w

-- ---- writes in a row: there is room for all of them

abbrev pub Fits : List ℕ → ℕ → List ℕ → ℕ → List ℕ → ℕ → Type 0
Fits d p xs n out next = p + n ≤ length d → Wrote d p xs n out next

pub same_size : {d xs out : List ℕ} {p n next : ℕ} → Wrote d p xs n out next → length out ≡ length d
same_size {d} {xs} {p = p} w = ap length w.bytes ∙ length-write d p xs

-- as the bytes of fields, to the right; the last of a body is `none`
infixr 30 ◌and◌
pub ◌and◌ : {d d' d'' xs ys : List ℕ} {p p' p'' n m : ℕ} → Fits d p xs n d' p' → Fits d' p' ys m d'' p'' → Fits d p (xs ++ ys) (n + m) d'' p''
◌and◌ a b h = let w = a (omega arith) in w then b (omega (arith, w.place, same_size w))

pub none : {d : List ℕ} {p : ℕ} → Fits d p [] 0 d p
none h = nothing

-- the head of a frame of n bytes, where they are a frame and have room
pub headed : {d xs out : List ℕ} {n next : ℕ} → Put (leb 5 n && leb n large_frame) d 0 xs 5 out next → 5 ≤ n → n ≤ length d → n ≤ large_frame → Wrote d 0 xs 5 out next
headed {n = n} w some room small = w.fits (rw (le-leb 5 n some, le-leb n large_frame small) refl) (omega arith)
