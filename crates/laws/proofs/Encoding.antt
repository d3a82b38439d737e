-- What is proved of encoding: exactly, unchanged, and the round trip.
use Prim.Native.Nat.{ℕ, ◌≤◌}
use mathlib.Core.Bool.{Bool, true, false, cond, false≢true}
use mathlib.Core.List.{List, [], ◌∷◌, ◌++◌, append_assoc}
use mathlib.Core.Logic.{◌↔◌}
use mathlib.Core.Option.{Option, some, none}
use mathlib.Core.Path.{◌≡◌, refl, ap, sym, ◌∙◌}
use native.Mathlib.Omega.{arith}
use borrow.Author.Tests.{le-ltb, ltb-false}
use lib.Dec.{ltb}
use lib.ListN.{length, take, drop}
use lib.Seq.{take-append_seam, drop-append_seam}
use Rattle.protocol.specs.Encoded as N
use Rattle.protocol.specs.Encoded.{Encoded}
use Rattle.protocol.specs.declared.Rules.{Rules}
use Rattle.protocol.specs.Answers.{success, refusal, of_encoded}
use Rattle.protocol.specs.Each.{Each, able_each, least_of_each}
use Rattle.protocol.specs.Encode.{encoded_by, written_by}
use Rattle.protocol.specs.Fields.{Atom, unsigned, signed, one_of, text, value, rest, AtomContent, atom_able, Item, ItemContent, item_able, items_able, Field, one, counted, ended, Content, able, least}
use Rattle.protocol.specs.Kinds.{Envelope, typed, untyped, bare, Kind, Mode, modes, IsIn}
use Rattle.protocol.specs.Refusals.{length_above_limit, output_too_short, not_representable}
use Rattle.protocol.specs.Rules.{rules_of}
use Rattle.protocol.specs.WellFormed.{Contents, body_bytes, header, length_of, frame, all_able, WellFormed}
use Rattle.protocol.proofs.Basics.{zero_one}
use Rattle.laws.specs.EncodeStatements.{the_encoder, Contracts, Representable, WithinLimit, HasRoom, EncodesExactly, Exactly, KeepsTheRest, Unchanged, Decodes, RoundTrip}
use Rattle.laws.specs.Statements.{the_decoder, the_element_call}
use Rattle.laws.proofs.Answered.{done as is-done, encoded_refused, encoded_unsuccessful}
use Rattle.laws.proofs.Complete.{complete, header_long}
use Rattle.laws.proofs.Elements.{elements}
use Rattle.laws.proofs.Fields.{fields_placed}
use Rattle.laws.proofs.Table.{smallest_is}

-- ---- the verdict, by its three tests

abbrev judge : Bool → Bool → Bool → ℕ → Encoded
judge able long short n = cond able (cond long (N.Refused length_above_limit 0) (cond short (N.Refused output_too_short 0) (N.Done n))) (N.Refused not_representable 0)

-- a and b hold, or neither does
pub yes : {A B : Type 0} → A → B → A ↔ B
yes a b = (λ _. b, λ _. a)

pub no : {A B : Type 0} → (A → ⊥) → (B → ⊥) → A ↔ B
no a b = (λ h. absurd (a h), λ h. absurd (b h))

pub same : {A : Type 0} → A ↔ A
same = (λ a. a, λ a. a)

pub through : {A B C : Type 0} → A ↔ B → B ↔ C → A ↔ C
through f g = (λ a. g.0 (f.0 a), λ c. f.1 (g.1 c))

-- an answer's case, by what it is set out as
pub says_refused : {r : Encoded} {number place : ℕ} → (of_encoded r ≡ refusal number place) ↔ (r ≡ N.Refused number place)
unfolding of_encoded
says_refused = (encoded_refused, λ e. rw e refl)

pub says_done : {r : Encoded} {n : ℕ} → (of_encoded r ≡ success tt n) ↔ (r ≡ N.Done n)
unfolding of_encoded
says_done = (is-done, λ e. rw e refl)

pub le_exactly : (a b : ℕ) → (a ≤ b) ↔ (ltb b a ≡ false)
le_exactly a b = (le-ltb _ _, ltb-false _ _)

other : (a b : ℕ) → (a ≡ b → ⊥) → (p q : ℕ) → N.Refused a p ≡ N.Refused b q → ⊥
other a b h p q e = h cc

undone : (a p n : ℕ) → N.Refused a p ≡ N.Done n → ⊥
undone a p n e = zero_one cc

done_not : (a p n : ℕ) → N.Done n ≡ N.Refused a p → ⊥
done_not a p n e = undone a p n (sym e)

-- it is one of four answers
pub data Says : Encoded → Type 0 where
  ten : Says (N.Refused not_representable 0)
  four : Says (N.Refused length_above_limit 0)
  nine : Says (N.Refused output_too_short 0)
  done : (n : ℕ) → Says (N.Done n)

pub judge_says : (able long short : Bool) (n : ℕ) → Says (judge able long short n)
judge_says false long short n = ten
judge_says true true short n = four
judge_says true false true n = nine
judge_says true false false n = done n

pub record Judged (A B C : Type 0) (r : Encoded) (n : ℕ) : Type 0 where
  pub ten : (r ≡ N.Refused not_representable 0) ↔ (A → ⊥)
  pub four : (r ≡ N.Refused length_above_limit 0) ↔ (A × (B → ⊥))
  pub nine : (r ≡ N.Refused output_too_short 0) ↔ (A × B × (C → ⊥))
  pub done : (j : ℕ) → (r ≡ N.Done j) ↔ ((A × B × C) × (j ≡ n))

pub judged : (able long short : Bool) (n : ℕ) (A B C : Type 0) → A ↔ (able ≡ true) → (A → B ↔ (long ≡ false)) → (A → C ↔ (short ≡ false)) → Judged A B C (judge able long short n) n
judged false long short n A B C a b c =
    let not : A → ⊥ = λ h. false≢true (a.0 h) in
    record {
      ten = yes refl not;
      four = no (other 10 4 (λ e. omega arith) 0 0) (λ h. not h.0);
      nine = no (other 10 9 (λ e. omega arith) 0 0) (λ h. not h.0);
      done = λ j. no (undone 10 0 j) (λ h. not h.0.0);
    }
judged true true short n A B C a b c =
    let is : A = a.1 refl in
    let not : B → ⊥ = λ h. false≢true (sym ((b is).0 h)) in
    record {
      ten = no (other 4 10 (λ e. omega arith) 0 0) (λ h. h is);
      four = yes refl (is, not);
      nine = no (other 4 9 (λ e. omega arith) 0 0) (λ h. not h.1);
      done = λ j. no (undone 4 0 j) (λ h. not h.0.1);
    }
judged true false true n A B C a b c =
    let is : A = a.1 refl in
    let fits : B = (b is).1 refl in
    let not : C → ⊥ = λ h. false≢true (sym ((c is).0 h)) in
    record {
      ten = no (other 9 10 (λ e. omega arith) 0 0) (λ h. h is);
      four = no (other 9 4 (λ e. omega arith) 0 0) (λ h. h.1 fits);
      nine = yes refl (is, fits, not);
      done = λ j. no (undone 9 0 j) (λ h. not h.0.2);
    }
judged true false false n A B C a b c =
    let is : A = a.1 refl in
    let fits : B = (b is).1 refl in
    let room : C = (c is).1 refl in
    record {
      ten = no (done_not 10 0 n) (λ h. h is);
      four = no (done_not 4 0 n) (λ h. h.1 fits);
      nine = no (done_not 9 0 n) (λ h. h.2 room);
      done = λ j. (λ e. let q : n ≡ j = cc in ((is, fits, room), sym q), λ h. ap N.Done (sym h.1));
    }

-- ---- exactly

module _ (m : Mode) (k : Kind) where
  -- a claim about the content of the arguments, where they are this content
  given_is : (P : Contents k → Type 0) (c : Contents k) → ((x : Contents k) × (◌≡◌ {A = Option (Contents k)} (some c) (some x)) × P x) ↔ P c
  given_is P c = (λ h. let q : c ≡ h.0 = cc in rw q h.2, λ p. (c, refl, p))

  given_none : (P : Contents k → Type 0) → ((x : Contents k) × (◌≡◌ {A = Option (Contents k)} none (some x)) × P x) → ⊥
  given_none P h = let e = h.1 in zero_one cc

  abbrev size : Contents k → ℕ
  size c = length (frame m.envelope k c)

  abbrev word : Contents k → ℕ
  word c = length_of m.envelope (length (body_bytes k c))

  abbrev can_be : Contents k → Bool
  can_be c = all_able (rules_of m.mode) k c

  verdict : (c : Contents k) (out : List ℕ) → Judged (Representable m k (some c)) (WithinLimit m k (some c)) (HasRoom m k (some c) out) (the_encoder m k (some c) out).answer (size c)
  unfolding encoded_by
  verdict c out =
      judged (can_be c) (ltb k.limit (word c)) (ltb (length out) (size c)) (size c) _ _ _
      (given_is (λ x. can_be x ≡ true) c)
      (λ _. through (given_is (λ x. word x ≤ k.limit) c) (le_exactly (word c) k.limit))
      (λ _. through (given_is (λ x. size x ≤ length out) c) (le_exactly (size c) (length out)))

  verdict_none : (out : List ℕ) → Judged (Representable m k none) (WithinLimit m k none) (HasRoom m k none out) (the_encoder m k none out).answer 0
  unfolding encoded_by
  verdict_none out =
      judged false true true 0 _ _ _
      (no (given_none (λ x. can_be x ≡ true)) false≢true)
      (λ _. no (given_none (λ x. word x ≤ k.limit)) (λ e. false≢true (sym e)))
      (λ _. no (given_none (λ x. size x ≤ length out)) (λ e. false≢true (sym e)))

  -- success says the size of what is written, and writes the frame
  wrote : (c : Contents k) (out : List ℕ) (n : ℕ) → (the_encoder m k (some c) out).answer ≡ N.Done n → (n ≡ size c) × ((the_encoder m k (some c) out).output ≡ frame m.envelope k c ++ drop n out)
  unfolding written_by
  wrote c out n e = ((((verdict c out).done n).0 e).1, ap (λ (r : Encoded). written_by m k (some c) r out) e)

  written : (c : Contents k) (out : List ℕ) (n : ℕ) → (the_encoder m k (some c) out).answer ≡ N.Done n → take n (the_encoder m k (some c) out).output ≡ frame m.envelope k c
  written c out n e =
      let w = wrote c out n e in
      rw (w.1, w.0) (take-append_seam (frame m.envelope k c) (drop (size c) out))

  exactly_by : (given : Option (Contents k)) (out : List ℕ) → EncodesExactly the_encoder m k given out
  exactly_by none out =
      let v = verdict_none out in
      record {
        ten = through says_refused v.ten;
        four = through says_refused v.four;
        nine = through says_refused v.nine;
        done = λ n. through says_done (no (λ e. given_none (λ x. can_be x ≡ true) ((v.done n).0 e).0.0) (λ h. given_none (λ x. can_be x ≡ true) h.0.0));
        writes = λ n c e _. absurd (zero_one cc);
      }
  exactly_by (some c) out =
      let v = verdict c out in
      record {
        ten = through says_refused v.ten;
        four = through says_refused v.four;
        nine = through says_refused v.nine;
        done = λ n. through says_done (through (v.done n) (λ h. (h.0, λ x e. let q : c ≡ x = cc in rw (← q) h.1), λ h. (h.0, h.1 c refl)));
        writes = λ n x e d. let q : c ≡ x = cc in rw (← q) (written c out n (is-done d));
      }

  keeps_by : (given : Option (Contents k)) (out : List ℕ) → KeepsTheRest the_encoder m k given out
  unfolding written_by
  keeps_by none out = record { refused = λ e. refl; later = λ n e. refl }
  keeps_by (some c) out = record {
    refused = λ e. let r = encoded_unsuccessful _ e in ap (λ (r : Encoded). written_by m k (some c) r out) r.2;
    later = λ n e. let w = wrote c out n (is-done e) in rw (w.1, w.0) (drop-append_seam (frame m.envelope k c) (drop (size c) out));
  }

  -- one of the four answers
  pub encoder_says : (given : Option (Contents k)) (out : List ℕ) → Says (the_encoder m k given out).answer
  unfolding encoded_by
  encoder_says none out = judge_says false true true 0
  encoder_says (some c) out = judge_says (can_be c) (ltb k.limit (word c)) (ltb (length out) (size c)) (size c)

pub exactly : Exactly the_encoder
exactly = exactly_by

pub unchanged : Unchanged the_encoder
unchanged = keeps_by

-- ---- the round trip

-- what can be written does not depend on the rules
atom_any : (a b : Rules) (x : Atom) (c : AtomContent x) → atom_able a x c ≡ atom_able b x c
unfolding atom_able
atom_any a b (unsigned w) c = refl
atom_any a b (signed w) c = refl
atom_any a b (one_of bs) c = refl
atom_any a b text c = refl
atom_any a b value c = refl
atom_any a b rest c = refl

each_any : {A : Type 0} {C : A → Type 0} (f g : (x : A) → C x → Bool) → ((x : A) (c : C x) → f x c ≡ g x c) → (xs : List A) (c : Each C xs) → able_each f xs c ≡ able_each g xs c
unfolding able_each
each_any f g h [] c = refl
each_any f g h (x ∷ xs) c = rw (h x c.0, each_any f g h xs c.1) refl

item_any : (a b : Rules) (i : Item) (c : ItemContent i) → item_able a i c ≡ item_able b i c
unfolding item_able
item_any a b i c = each_any (atom_able a) (atom_able b) (atom_any a b) i.atoms c

items_any : (a b : Rules) (i : Item) (cs : List (ItemContent i)) → items_able a i cs ≡ items_able b i cs
unfolding items_able
items_any a b i [] = refl
items_any a b i (c ∷ cs) = rw (item_any a b i c, items_any a b i cs) refl

field_any : (a b : Rules) (x : Field) (c : Content x) → able a x c ≡ able b x c
unfolding able
field_any a b (one x) c = atom_any a b x c
field_any a b (counted k i) cs = rw (items_any a b i cs) refl
field_any a b (ended i) cs = rw (items_any a b i cs) refl

able_any : (a b : Rules) (k : Kind) (c : Contents k) → all_able a k c ≡ all_able b k c
able_any a b k c = each_any (able a) (able b) (field_any a b) k.body c

-- a kind that two modes have is framed alike in both: its smallest length tells how
envelope_by : (e f : Envelope) (n : ℕ) → length_of e n ≡ length_of f n → e ≡ f
envelope_by typed typed n h = refl
envelope_by typed untyped n h = absurd (omega arith)
envelope_by typed bare n h = absurd (omega arith)
envelope_by untyped typed n h = absurd (omega arith)
envelope_by untyped untyped n h = refl
envelope_by untyped bare n h = absurd (omega arith)
envelope_by bare typed n h = absurd (omega arith)
envelope_by bare untyped n h = absurd (omega arith)
envelope_by bare bare n h = refl

same_envelope : (m reads : Mode) (k : Kind) → IsIn m modes → IsIn k m.kinds → IsIn reads modes → IsIn k reads.kinds → m.envelope ≡ reads.envelope
same_envelope m reads k i j i2 j2 = envelope_by m.envelope reads.envelope (least_of_each least k.body) (sym (smallest_is m i k j) ∙ smallest_is reads i2 k j2)

-- a well-formed frame, followed by any bytes
pub decodes : (rules : Rules) (m : Mode) (k : Kind) (c : Contents k) (t : List ℕ) → WellFormed rules m k c → Decodes the_decoder the_element_call rules m k c (frame m.envelope k c ++ t) (length (frame m.envelope k c))
unfolding frame body_bytes
decodes rules m k c t w =
    let body = body_bytes k c in
    let h = header m.envelope k.tag (length body) in
    record {
      decoded = complete rules m k c t w;
      placed = rw (append_assoc h body t) (rw (header_long m.envelope k.tag (length body)) at (fields_placed k.body c h t));
      elements = λ l i. elements rules m k c t l i w;
    }

pub round_trip : RoundTrip the_encoder the_decoder the_element_call
round_trip m k c out t n i j in_range e rules reads i2 is j2 =
    let same = same_envelope m reads k i j i2 j2 in
    let ok = ((verdict m k c out).done n).0 (is-done e) in
    let able = (given_is m k (λ x. can_be m k x ≡ true) c).0 ok.0.0 in
    let most = (given_is m k (λ x. word m k x ≤ k.limit) c).0 ok.0.1 in
    let w : WellFormed rules reads k c = record {
      known = i2;
      mode = is;
      kind = j2;
      in_range = in_range;
      writable = able_any rules (rules_of m.mode) k c ∙ able;
      within_limit = rw (← same) most;
    } in
    rw (written m k c out n (is-done e), ok.1, same) (decodes rules reads k c t w)

-- ---- what the contracts say

pub contracts : Contracts the_encoder
contracts m k given out r left e = (e.answer, e.output ∙ ap (λ (x : Encoded). written_by m k given x out) e.answer)
