-- Arguments of which a part may be no content: the body is made of that part, where there is one.
use Prim.Native.Nat.{ℕ, ◌-◌, ◌≤◌}
use mathlib.Core.Bool.{Bool, true, false, cond, ◌&&◌}
use mathlib.Core.List.{List, ◌∷◌}
use mathlib.Core.Option.{Option, some, none, map}
use mathlib.Core.Path.{◌≡◌, refl, sym}
use native.Mathlib.Omega.{arith}
use borrow.Author.Tests.{eqb-true, eqb-false, eq-eqb, ne_eqb}
use lib.Dec.{eqb}
use lib.ListN.{length}
use Rattle.protocol.specs.Encode.{one_before}
use Rattle.protocol.specs.Kinds.{Envelope, Kind, Mode}
use Rattle.protocol.specs.Rules.{rules_of}
use Rattle.protocol.specs.WellFormed.{Contents, body_bytes, all_able}
use Rattle.protocol.proofs.Basics.{none-some}
use Rattle.writers.specs.Given.{is_some}
use Rattle.writers.specs.Writing.{WroteFrame}
use Rattle.writers.proofs.Encoding.{able_of, MeasuredIn, measured}

-- ---- a first item, behind a test

pub record First {A : Type 0} (x : A) (t : Bool) (o : Option (List A)) (xs : List A) : Type 0 where
  pub passed : t ≡ true
  pub rest : List A
  pub was : o ≡ some rest
  pub is : xs ≡ x ∷ rest

pub first : {A : Type 0} (x : A) (t : Bool) (o : Option (List A)) (xs : List A) → cond t (one_before x o) none ≡ some xs → First x t o xs
first x true (some rest) xs e = let q : x ∷ rest ≡ xs = cc in record { passed = refl; rest = rest; was = refl; is = sym q }
first x true none xs e = absurd (none-some e)
first x false o xs e = absurd (none-some e)

pub some_first : {A : Type 0} (x : A) (t : Bool) (o : Option (List A)) → is_some (cond t (one_before x o) none) ≡ t && is_some o
some_first x true (some rest) = refl
some_first x true none = refl
some_first x false o = refl

-- all bytes are given away exactly where none is left
pub spent : (left n : ℕ) → left ≤ n → eqb (n - left) n ≡ eqb left 0
spent left n h = by (eqb left 0) refl
  where
    by : (t : Bool) → eqb left 0 ≡ t → eqb (n - left) n ≡ t
    by true e = let k : left ≡ 0 = eqb-true left 0 e in eq-eqb (n - left) n (omega arith)
    by false e = ne_eqb (n - left) n (λ q. eqb-false left 0 e (omega (arith, q)))

-- ---- the whole body

module _ {A : Type 0} {e : Envelope} (k : Kind) (body : A → Contents k) where
  pub framed_given : {d left : List ℕ} (given : Option A)
      → ((x : A) → given ≡ some x → WroteFrame e k (some (body x)) d left) → WroteFrame e k (map body given) d left
  framed_given none w = record { bytes = λ c is. absurd (none-some is) }
  framed_given (some x) w = w x refl

  pub measured_given : (m : Mode) (given : Option A) {limit : ℕ} {able : Bool} {size : ℕ} → m.envelope ≡ e → k.limit ≡ limit
      → ((x : A) → given ≡ some x → all_able (rules_of m.mode) k (body x) ≡ able)
      → ((x : A) → given ≡ some x → length (body_bytes k (body x)) ≡ size)
      → MeasuredIn e m k (map body given) limit (is_some given && able) size
  unfolding able_of
  measured_given m none framed l a s = record {
    envelope = framed;
    limit = l;
    able = refl;
    size = λ c is. absurd (none-some is);
  }
  measured_given m (some x) framed l a s = measured m k (body x) framed l (a x refl) (s x refl)
