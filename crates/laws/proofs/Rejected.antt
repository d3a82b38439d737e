-- That each useless build and each shortcut breaks its statement: a frame, or a call, at which the two differ.
use Prim.Native.Nat.{ℕ, ◌<◌}
use mathlib.Core.Bool.{Bool, true, false, cond, false≢true}
use mathlib.Core.List.{List, [], ◌∷◌, ◌++◌, append-nil}
use mathlib.Core.Logic.{inl, inr}
use mathlib.Core.Option.{some}
use mathlib.Core.Path.{◌≡◌, refl}
use native.Mathlib.Omega.{arith}
use borrow.Author.Tests.{ltb-true}
use lib.Dec.{ltb}
use lib.ListN.{take}
use Rattle.protocol.specs.Decoded as D
use Rattle.protocol.specs.declared.Message.TheVariants as M
use Rattle.protocol.specs.declared.Message.{Message}
use Rattle.protocol.specs.declared.Rules.{Rules}
use Rattle.protocol.specs.Answers.{success, needs_more, refusal, of_decoded, of_encoded}
use Rattle.protocol.specs.Bytes.{Bytes, be}
use Rattle.protocol.specs.Each.{bytes_of_each, able_each, HoldsEach}
use Rattle.protocol.specs.Elements.{list_in, element_by, found_by, element_at, element_in, element_of}
use Rattle.protocol.specs.Encode.{encoded_by, written_by}
use Rattle.protocol.specs.Kinds.{typed, backend, parse_complete, value_element}
use Rattle.protocol.specs.Rules.{rules_of}
use Rattle.protocol.specs.WellFormed.{body_start, body_bytes, header, frame, record_of}
use Rattle.protocol.proofs.Open.{the_decoding}
use Rattle.laws.specs.Items.{found}
use Rattle.laws.specs.Statements.{Decoder, ElementCall, the_decoder, the_element_call, Sound, NeedMore, Refusals}
use Rattle.laws.specs.ElementStatements.{Elements}
use Rattle.laws.specs.Rejected.{Rejected}
use Rattle.laws.specs.Shortcuts as S
use Rattle.laws.proofs.Answered.{recorded, waiting, refused}
use Rattle.laws.proofs.Complete.{complete}
use Rattle.laws.proofs.Elements.{elements}
use Rattle.laws.proofs.NeedMore.{need_more}
use Rattle.laws.proofs.Only.{one_answer}
use Rattle.laws.proofs.Refusals.{refusals}
use Rattle.laws.proofs.Sound.{sound}

-- ---- a statement leaves a decoder, or an element call, the one answer

-- what a sound decoder takes, the decoder takes from those bytes alone
sound_takes : (decode : Decoder) → Sound decode → (rules : Rules) (s : List ℕ) (r : Message) (n : ℕ) → Bytes s → of_decoded (decode rules s) ≡ success r n → the_decoder rules (take n s) ≡ D.Record r n
sound_takes decode h rules s r n b e =
    let a = h rules s r n b e in
    let f = frame a.mode.envelope a.kind a.content in
    rw (append-nil f, ← a.size, ← a.is, ← a.bytes) at (recorded (complete rules a.mode a.kind a.content [] a.well_formed))

-- one that waits exactly as it should waits where the decoder does
waits_too : (decode : Decoder) → NeedMore decode → (rules : Rules) (s : List ℕ) → of_decoded (decode rules s) ≡ needs_more → the_decoder rules s ≡ D.NeedMore
waits_too decode h rules s e = waiting ((need_more rules s).1 ((h rules s).0 e))

-- one that refuses exactly as it should refuses as the decoder does
refuses_too : (decode : Decoder) → Refusals decode → (rules : Rules) (s : List ℕ) (number place : ℕ) → Bytes s → of_decoded (decode rules s) ≡ refusal number place → the_decoder rules s ≡ D.Refused number place
refuses_too decode h rules s number place b e = refused ((refusals rules s number place b).1 ((h rules s number place b).0 e))

same_element : (call : ElementCall) → Elements call → (rules : Rules) (s : List ℕ) (r : Message) (n : ℕ) → Bytes s → of_decoded (the_decoder rules s) ≡ success r n → (l i : ℕ) → call rules (take n s) l i ≡ the_element_call rules (take n s) l i
same_element call h rules s r n b e l i =
    let a = sound rules s r n b e in
    let f = frame a.mode.envelope a.kind a.content in
    let x = found a.kind.body (body_start a.mode.envelope) a.content l i in
    let one = one_answer (f ++ []) x (call rules (f ++ []) l i) (the_element_call rules (f ++ []) l i) (h rules a.mode a.kind a.content [] l i a.well_formed) (elements rules a.mode a.kind a.content [] l i a.well_formed) in
    rw (append-nil f, ← a.bytes) at one

-- ---- the builds

abbrev mode : ℕ → Rules
mode n = rules_of n

abbrev five_bytes : List ℕ
five_bytes = 0 ∷ 0 ∷ 0 ∷ 0 ∷ 0 ∷ []

abbrev a_sync : List ℕ
a_sync = 0x53 ∷ 0 ∷ 0 ∷ 0 ∷ 4 ∷ []

-- ReadyForQuery, of six bytes
abbrev idle : List ℕ
idle = 0x5A ∷ 0 ∷ 0 ∷ 0 ∷ 5 ∷ 0x49 ∷ []

-- a DataRow of "ab" and NULL
abbrev two_values : List ℕ
two_values = 0x44 ∷ 0 ∷ 0 ∷ 0 ∷ 0x10 ∷ 0 ∷ 2 ∷ 0 ∷ 0 ∷ 0 ∷ 2 ∷ 0x61 ∷ 0x62 ∷ 0xFF ∷ 0xFF ∷ 0xFF ∷ 0xFF ∷ []

-- a CommandComplete whose string has its zero byte behind the frame's end
abbrev no_zero_byte : List ℕ
no_zero_byte = 0x43 ∷ 0 ∷ 0 ∷ 0 ∷ 6 ∷ 0x4F ∷ 0x4B ∷ 0 ∷ []

-- a DataRow that counts two values and has room for one, which is refused itself
abbrev too_many : List ℕ
too_many = 0x44 ∷ 0 ∷ 0 ∷ 0 ∷ 0x0C ∷ 0 ∷ 2 ∷ 0xFF ∷ 0xFF ∷ 0xFF ∷ 0xFE ∷ 0xFF ∷ 0xFF ∷ []

-- a length that is one above the limit
abbrev hopeless : List ℕ
hopeless = 0x45 ∷ 0 ∷ 0 ∷ 0x20 ∷ 1 ∷ []

-- bytes, by a test that computes
are_bytes : List ℕ → Bool
are_bytes [] = true
are_bytes (b ∷ bs) = cond (ltb b 256) (are_bytes bs) false

bytes_by_test : (b : ℕ) (bs : List ℕ) (t : Bool) → ltb b 256 ≡ t → (are_bytes bs ≡ true → Bytes bs) → cond t (are_bytes bs) false ≡ true → (b < 256) × Bytes bs
bytes_by_test b bs true q rest e = (ltb-true b 256 q, rest e)
bytes_by_test b bs false q rest e = absurd (false≢true e)

bytes_by : (s : List ℕ) → are_bytes s ≡ true → Bytes s
unfolding Bytes are_bytes
bytes_by [] e = tt
bytes_by (b ∷ bs) e = bytes_by_test b bs (ltb b 256) refl (bytes_by bs) e

no : {A : Type 0} → ◌≡◌ {A = ℕ} 0 1 → A
no z = absurd (omega arith)

pub rejected : Rejected
unfolding the_decoding are_bytes header be frame body_bytes bytes_of_each able_each HoldsEach of_decoded of_encoded encoded_by written_by list_in element_by found_by element_at element_in element_of value_element
rejected = record {
  refuses_everything = λ h. no (let e = (h backend parse_complete tt five_bytes [] 5 (inr (inl refl)) (inl refl) tt refl (mode 1) backend (inr (inl refl)) refl (inl refl)).decoded in let r : D.Refused 2 0 ≡ D.Record (record_of typed parse_complete tt) 5 = recorded e in cc);
  fixed_record = λ h. let e = (h (mode 0) [] M.Sync 5 (bytes_by [] refl) refl).within in omega arith;
  writes_nothing = λ h. no (let e = (h backend parse_complete (some tt) five_bytes).writes 5 tt refl refl in cc);
  first_for_each_number = λ h. no (let e = same_element S.first_for_each_number h (mode 1) two_values _ 17 (bytes_by two_values refl) refl 0 1 in cc);
  invented_count = λ h. no (let e = sound_takes S.invented_count h (mode 1) idle _ 5 (bytes_by idle refl) refl in cc);
  bounded_by_the_buffer = λ h. no (let e = sound_takes S.bounded_by_the_buffer h (mode 1) no_zero_byte _ 7 (bytes_by no_zero_byte refl) refl in cc);
  waits_for_the_body = λ h. no (let e = waits_too S.waits_for_the_body h (mode 0) hopeless refl in cc);
  header_first = λ h. no (let e = (h backend parse_complete (some tt) (0 ∷ [])).refused (inr (9, 0, refl)) in cc);
  count_at_its_word = λ h. no (let e : D.Refused 5 5 ≡ D.Refused 7 7 = refuses_too S.count_at_its_word h (mode 1) too_many 7 7 (bytes_by too_many refl) refl in cc);
  always_waits = λ h. no (let e = waits_too S.always_waits h (mode 0) hopeless refl in cc);
  ignores_the_mode = λ h. no (let e = sound_takes S.ignores_the_mode h (mode 1) a_sync M.Sync 5 (bytes_by a_sync refl) refl in cc);
  refuses_to_write = λ h. (h backend parse_complete (some tt) five_bytes).ten.0 refl (tt, refl, refl);
  cuts_the_output = λ h. no (let e = (h backend parse_complete (some tt) (0 ∷ 0 ∷ [])).refused (inr (9, 0, refl)) in cc);
}
