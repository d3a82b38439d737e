-- Law 5: need-more exactly when the mode is known, every check on the header bytes that are there passes, and the frame's end has not arrived.
use Prim.Native.Nat.{ℕ, ◌+◌, ◌≤◌, ◌<◌}
use mathlib.Core.Bool.{Bool, true, false, cond}
use mathlib.Core.List.{List}
use mathlib.Core.Logic.Iff
use mathlib.Core.Logic.{◌⊎◌, inl, inr, ⊎_elim, ⊎_map, ◌↔◌}
use mathlib.Core.Option.{Option, some, none}
use mathlib.Core.Path.{◌≡◌, refl}
use native.Mathlib.Omega.{arith}
use borrow.Author.Tests.{ltb-true, ltb-false, lt-ltb, le-ltb}
use lib.Dec.{ltb}
use lib.IntN.{ℤ, pos, negsuc}
use lib.ListN.{length}
use Rattle.protocol.specs.declared.Rules.{Rules}
use Rattle.protocol.specs.Bytes.{number_at, signed_of}
use Rattle.protocol.specs.Decode.{Header, more, refuse, framed, length_by, typed_by, untyped_by, bare_by, tag_at, header_by, header_of}
use Rattle.protocol.specs.Kinds.{Envelope, typed, untyped, bare, Kind, Mode, modes, IsIn, mode_of, kind_in}
use Rattle.protocol.proofs.Basics.{zero_one}
use Rattle.laws.specs.Statements.{NeedMore, the_decoder}
use Rattle.laws.specs.Waiting.{LengthWaits, TypedWaits, UntypedWaits, WaitsIn, Waits}
use Rattle.laws.proofs.Headers.{tag_end, after_tag, header_is, decoding_waits}
use Rattle.laws.proofs.Table.{mode_found, kind_found}

-- ---- one check

-- a refusal does not wait, and a whole frame does not
not_refused : {number place : ℕ} → refuse number place ≡ more → ⊥
not_refused e = zero_one cc

not_framed : {k : Kind} {start end : ℕ} → framed k start end ≡ more → ⊥
not_framed e = zero_one cc

-- where a check that refuses a below b comes to wait, a passed it
passed : (a b number place : ℕ) {x : Header} (t : Bool) → ltb a b ≡ t → cond t (refuse number place) x ≡ more → (b ≤ a) × (x ≡ more)
passed a b number place true t e = absurd (not_refused e)
passed a b number place false t e = (ltb-false a b t, e)

-- where a check for n bytes, of which a are there, comes to wait, it does so itself or what follows does
here_or_later : (a n : ℕ) {x : Header} (t : Bool) → ltb a n ≡ t → cond t more x ≡ more → (a < n) ⊎ ((n ≤ a) × (x ≡ more))
here_or_later a n true t e = inl (ltb-true a n t)
here_or_later a n false t e = inr (ltb-false a n t, e)

-- a choice of `more` and `more` waits
both_wait : (t : Bool) → cond t more more ≡ more
both_wait true = refl
both_wait false = refl

-- and then it waits
waits : (a n : ℕ) {x : Header} → (a < n) ⊎ (x ≡ more) → cond (ltb a n) more x ≡ more
waits a n (inl l) = rw (lt-ltb a n l) refl
waits a n (inr e) = rw e (both_wait (ltb a n))

-- ---- the checks of a length

-- where they wait, the length is right and the frame's end has not arrived
length_waits : (k : Kind) (p start : ℕ) (s : List ℕ) (z : ℤ) → signed_of 4 (number_at 4 s p) ≡ z → length_by k p start s z ≡ more → LengthWaits k p s
unfolding length_by
length_waits k p start s (negsuc n) w e = absurd (not_refused e)
length_waits k p start s (pos n) w e =
    let least = passed n k.smallest _ _ _ refl e in
    let most = passed k.limit n _ _ _ refl least.1 in
    let end = here_or_later (length s) (p + n) _ refl most.1 in
    record { n = n; word = w; smallest = least.0; limit = most.0; waits = ⊎_elim (λ l. l) (λ f. absurd (not_framed f.1)) end }

-- and there they wait
waits_length : (k : Kind) (p start : ℕ) (s : List ℕ) → LengthWaits k p s → length_by k p start s (signed_of 4 (number_at 4 s p)) ≡ more
unfolding length_by
waits_length k p start s w = rw (w.word, le-ltb _ _ w.smallest, le-ltb _ _ w.limit, lt-ltb _ _ w.waits) refl

-- ---- by envelope

module _ (m : Mode) (known : IsIn m modes) (s : List ℕ) where
  -- where the checks after a tag wait, the tag is a kind's, and that kind's length waits
  typed_waits : (o : Option Kind) → kind_in m (number_at 1 s 0) ≡ o → 1 ≤ length s → typed_by o s ≡ more → TypedWaits m.kinds s
  unfolding typed_by
  typed_waits none q l e = absurd (not_refused e)
  typed_waits (some k) q l e =
      let f = (kind_found m known _ k).0 q in
      let rest = ⊎_map (λ r. r) (λ r. length_waits k 1 5 s _ refl r.1) (here_or_later (length s) 5 _ refl e) in
      record { kind = k; known = f.0; type = f.1; some = l; rest = rest }

  untyped_waits : (o : Option Kind) → kind_in m (number_at 4 s 4) ≡ o → 8 ≤ length s → untyped_by o s ≡ more → UntypedWaits m.kinds s
  unfolding untyped_by
  untyped_waits none q l e = absurd (not_refused e)
  untyped_waits (some k) q l e =
      let f = (kind_found m known _ k).0 q in
      record { kind = k; known = f.0; code = f.1; some = l; rest = length_waits k 0 8 s _ refl e }

  -- and after a bare tag none does
  bare_answers : (o : Option Kind) → bare_by o ≡ more → ⊥
  unfolding bare_by
  bare_answers none e = not_refused e
  bare_answers (some k) e = not_framed e

  -- a header that waits, for its tag or after it, does so as docs/FORMAT.md 3 says
  in_waits : (e : Envelope) → (length s < tag_end e) ⊎ ((tag_end e ≤ length s) × (after_tag e (kind_in m (tag_at e s)) s ≡ more)) → WaitsIn e m.kinds s
  in_waits typed (inl l) = inl (omega arith)
  in_waits typed (inr h) = inr (typed_waits _ refl h.0 h.1)
  in_waits untyped (inl l) = inl l
  in_waits untyped (inr h) = inr (untyped_waits _ refl h.0 h.1)
  in_waits bare (inl l) = omega arith
  in_waits bare (inr h) = absurd (bare_answers _ h.1)

  -- and where docs/FORMAT.md 3 says so, it waits
  waits_in : (e : Envelope) → WaitsIn e m.kinds s → (length s < tag_end e) ⊎ (after_tag e (kind_in m (tag_at e s)) s ≡ more)
  unfolding typed_by untyped_by
  waits_in typed (inl z) = inl (omega arith)
  waits_in typed (inr w) =
      inr (rw ((kind_found m known _ w.kind).1 (w.known, w.type)) (waits (length s) 5 (⊎_map (λ l. l) (waits_length w.kind 1 5 s) w.rest)))
  waits_in untyped (inl l) = inl l
  waits_in untyped (inr w) = inr (rw ((kind_found m known _ w.kind).1 (w.known, w.code)) (waits_length w.kind 0 8 s w.rest))
  waits_in bare z = inl (omega arith)

-- ---- by mode

-- a header that waits has a mode, and waits in it
mode_waits : (rules : Rules) (s : List ℕ) (o : Option Mode) → mode_of rules ≡ o → header_by o s ≡ more → Waits rules.mode s
unfolding header_by
mode_waits rules s none q e = absurd (not_refused e)
mode_waits rules s (some m) q e =
    let f = (mode_found rules m).0 q in
    let h = here_or_later (length s) (tag_end m.envelope) _ refl (rw header_is at e) in
    record { is = m; known = f.0; number = f.1; waits = in_waits m f.0 s m.envelope h }

-- and where its mode waits, it does
waits_mode : (rules : Rules) (s : List ℕ) → Waits rules.mode s → header_of rules s ≡ more
unfolding header_of header_by
waits_mode rules s w = rw ((mode_found rules w.is).1 (w.known, w.number), header_is) (waits _ _ (waits_in w.is w.known s w.is.envelope w.waits))

-- a header waits exactly as docs/FORMAT.md 3 says
pub header_waits : (rules : Rules) (s : List ℕ) → (header_of rules s ≡ more) ↔ Waits rules.mode s
unfolding header_of
header_waits rules s = (mode_waits rules s (mode_of rules) refl, waits_mode rules s)

-- decoding says need-more exactly then
pub need_more : NeedMore the_decoder
need_more rules s = Iff.trans (decoding_waits rules s) (header_waits rules s)
