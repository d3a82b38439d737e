-- The numbers that refusals have, and that a refusal or need-more consumes nothing and gives nothing: of decoding, element calls and encoders.
use Prim.Native.Nat.{ℕ}
use mathlib.Core.Bool.{Bool, true, false, ◌||◌, false≢true}
use mathlib.Core.List.{List, [], ◌∷◌, ◌++◌}
use mathlib.Core.Logic.{inl, inr, ⊎_elim}
use mathlib.Core.Path.{◌≡◌, refl}
use native.Mathlib.Omega.{arith}
use lib.Dec.{eqb}
use Rattle.protocol.specs.Decoded as D
use Rattle.protocol.specs.Decoded.{Decoded}
use Rattle.protocol.specs.Encoded as N
use Rattle.protocol.specs.Encoded.{Encoded}
use Rattle.protocol.specs.Found as F
use Rattle.protocol.specs.Found.{Found}
use Rattle.protocol.specs.declared.Rules.{Rules}
use Rattle.protocol.specs.Answers.{success, needs_more, refusal, of_decoded, of_element, of_encoded}
use Rattle.protocol.specs.Bytes.{is_one_of}
use Rattle.protocol.specs.Fields.{Atom, unsigned, signed, one_of, text, value, rest, Field, one, counted, ended}
use Rattle.protocol.specs.Kinds.{Envelope, typed, untyped, bare, Kind}
use Rattle.laws.specs.Faults.{AtomFault, AtomsFault, here, later, FieldFault, BodyFault, left, LengthFault, HeaderFault}
use Rattle.laws.specs.Statements.{FaultOf, GivesNothing, decode_numbers, Numbered, the_decoder}
use Rattle.laws.proofs.Refusals.{refusals}

-- ---- a refusal or need-more consumes nothing and gives nothing

pub success_nothing : {X : Type 0} {x : X} {n : ℕ} → GivesNothing (success x n)
success_nothing (inl e) = absurd (false≢true e)
success_nothing (inr h) = absurd (omega arith)

pub needs_nothing : {X : Type 0} → GivesNothing (needs_more {X = X})
needs_nothing h = (refl, refl)

pub refusal_nothing : {X : Type 0} (number place : ℕ) → GivesNothing (refusal {X = X} number place)
refusal_nothing number place h = (refl, refl)

decoded_nothing : (d : Decoded) → GivesNothing (of_decoded d)
unfolding of_decoded
decoded_nothing (D.Record m n) = success_nothing
decoded_nothing D.NeedMore = needs_nothing
decoded_nothing (D.Refused number place) = refusal_nothing number place

pub element_nothing : (e : Found) → GivesNothing (of_element e)
unfolding of_element
element_nothing (F.Is e) = success_nothing
element_nothing F.NeedMore = needs_nothing
element_nothing (F.Refused number place) = refusal_nothing number place

pub encoded_nothing : (r : Encoded) → GivesNothing (of_encoded r)
unfolding of_encoded
encoded_nothing (N.Done n) = success_nothing
encoded_nothing (N.Refused number place) = refusal_nothing number place

-- ---- the number of a fault

-- one of some numbers is one of more
one_of_by : (n x : ℕ) (t : Bool) (xs ys : List ℕ) → (is_one_of n xs ≡ true → is_one_of n (xs ++ ys) ≡ true) → t || is_one_of n xs ≡ true → t || is_one_of n (xs ++ ys) ≡ true
one_of_by n x true xs ys ih h = refl
one_of_by n x false xs ys ih h = ih h

pub one_of_more : (n : ℕ) (xs ys : List ℕ) → is_one_of n xs ≡ true → is_one_of n (xs ++ ys) ≡ true
unfolding is_one_of
one_of_more n [] ys h = absurd (false≢true h)
one_of_more n (x ∷ xs) ys h = one_of_by n x (eqb n x) xs ys (one_of_more n xs ys) h

One : ℕ → Type 0
One number = is_one_of number decode_numbers ≡ true

-- one of them, by which it is
abbrev known : {number : ℕ} (n : ℕ) → One n → number ≡ n → One number
known n t e = rw e t

atom_number : (a : Atom) (g : List ℕ) (number : ℕ) → AtomFault a g number → One number
unfolding AtomFault One is_one_of
atom_number (unsigned w) g number h = known 6 refl h.0
atom_number (signed w) g number h = known 6 refl h.0
atom_number (one_of bs) g number (inl h) = known 6 refl h.0
atom_number (one_of bs) g number (inr h) = known 7 refl h.0
atom_number text g number h = known 6 refl h.0
atom_number value g number (inl h) = known 6 refl h.0
atom_number value g number (inr (inl h)) = known 7 refl h.0
atom_number value g number (inr (inr h)) = known 6 refl h.0
atom_number rest g number h = absurd h

module _ (rules : Rules) where
  atoms_number : (xs : List Atom) (g : List ℕ) (number at : ℕ) → AtomsFault rules xs g number at → One number
  atoms_number [] g number at x' = elim x' [ ]
  atoms_number (a ∷ xs) g number at (here h) = atom_number a g number h
  atoms_number (a ∷ xs) g number at (later {h = h} {at = inside} before fault) = atoms_number xs h number inside fault

  field_number : (x : Field) (g : List ℕ) (number at : ℕ) → FieldFault rules x g number at → One number
  unfolding FieldFault One is_one_of
  field_number (one a) g number at h = atom_number a g number h.0
  field_number (counted k i) g number at (inl (inl h, z)) = known 6 refl h.0
  field_number (counted k i) g number at (inl (inr h, z)) = known 5 refl h.0
  field_number (counted k i) g number at (inr h) = atoms_number i.atoms h.after number h.inside h.fault
  field_number (ended i) g number at h = ⊎_elim (λ e. known 6 refl e.0) (λ e. atoms_number i.atoms h.after number h.inside e.2) h.fault

  body_number : (xs : List Field) (g : List ℕ) (number at : ℕ) → BodyFault rules xs g number at → One number
  unfolding One is_one_of
  body_number [] g number at (left h) = refl
  body_number (x ∷ xs) g number at (here h) = field_number x g number at h
  body_number (x ∷ xs) g number at (later {h = h} {at = inside} before fault) = body_number xs h number inside fault

length_number : (k : Kind) (p : ℕ) (s : List ℕ) (number : ℕ) → LengthFault k p s number → One number
unfolding One is_one_of
length_number k p s number (inl h) = known 3 refl h.0
length_number k p s number (inr h) = known 4 refl h.0

header_number : (e : Envelope) (kinds : List Kind) (s : List ℕ) (number place : ℕ) → HeaderFault e kinds s number place → One number
unfolding HeaderFault One is_one_of
header_number typed kinds s number place (inl h) = known 2 refl h.0
header_number typed kinds s number place (inr h) = length_number h.2.0 1 s number h.2.2
header_number untyped kinds s number place (inl h) = known 2 refl h.0
header_number untyped kinds s number place (inr h) = length_number h.2.0 0 s number h.2.2
header_number bare kinds s number place h = known 2 refl h.0

fault_number : (rules : Rules) (s : List ℕ) (number place : ℕ) → FaultOf rules s number place → One number
unfolding One is_one_of
fault_number rules s number place (inl h) = known 1 refl h.0
fault_number rules s number place (inr (inl h)) = header_number h.mode.envelope h.mode.kinds s number place h.fault
fault_number rules s number place (inr (inr h)) = body_number rules h.kind.body _ number h.at h.fault

pub numbered : Numbered the_decoder
unfolding One
numbered rules s b = record { number = λ number place e. fault_number rules s number place ((refusals rules s number place b).0 e); nothing = decoded_nothing _ }
