-- Each sort of atom: its bytes are read as it, and what was read is its bytes.
use Prim.Native.Nat.{ℕ, zero, suc, ◌+◌, ◌-◌, ◌/◌, ◌%◌, ◌^◌, ◌≤◌, ◌<◌}
use mathlib.Core.Bool.{Bool, true, false, cond, not, ◌&&◌, false≢true}
use mathlib.Core.List.{List, [], ◌∷◌, ◌++◌, append_assoc, append-nil}
use mathlib.Core.Option.{Option, some, none}
use mathlib.Core.Path.{◌≡◌, refl, ap, sym, ◌∙◌}
use native.Mathlib.Omega.{arith}
use borrow.Author.Tests.{le-leb, leb-true, eqb-true}
use lib.Dec.{T, leb, eqb}
use lib.IntN.{ℤ, pos, negsuc}
use lib.ListN.{length, take, drop, length-append, length-drop, take-append-drop}
use lib.Seq.{drop-append_seam, drop-drop, length-take-le, drop-length}
use lib.Signed.{mag}
use Rattle.protocol.specs.declared.Rules.{Rules}
use Rattle.protocol.specs.declared.Span.{Span}
use Rattle.protocol.specs.Bytes.{Bytes, no_zero, is_one_of, be, signed_of, bits_of}
use Rattle.protocol.specs.Fields.{Atom, unsigned, signed, one_of, text, value, rest, AtomContent, AtomSlot, ValueInRange, AtomInRange, atom_able, value_bytes, atom_bytes, value_slot, atom_slot}
use Rattle.protocol.specs.Reading.{Read, got, bad, and_then, read_number, one_more, zero_in, text_at, read_text, value_at, read_value, read_atom}
use Rattle.protocol.specs.Refusals.{cut, not_allowed}
use Rattle.protocol.specs.Rules.{rules_of}
use Rattle.protocol.proofs.Basics.{zero_one}
use Rattle.protocol.proofs.Numbers.{lower, whole}
use Rattle.laws.specs.Faults.{LastAtom}
use Rattle.laws.proofs.EachReads.{ReadsBack, Was}
use Rattle.laws.proofs.Numbers.{bytes_take, bytes_drop, length-be, at_be, be_at, number_at_below, bits_below, signed_bits, signed_in_range, bits_signed}

-- a signed number of no bytes has no range; the table has none
abbrev pub sane_atom : Atom → Bool
sane_atom (unsigned w) = true
sane_atom (signed zero) = false
sane_atom (signed (suc w)) = true
sane_atom (one_of bs) = true
sane_atom text = true
sane_atom value = true
sane_atom rest = true

-- ---- the bytes of an atom are read as it

-- a number
pub number_back : (w n : ℕ) (pre post : List ℕ) → n < 256 ^ w → read_number w (pre ++ (be w n ++ post)) (length pre) ≡ got n (length pre + w)
unfolding read_number
number_back w n pre post h =
    let l : length pre + w ≤ length (pre ++ (be w n ++ post)) = simp (length-append, length-be) (omega arith) in
    rw (le-leb _ _ l, at_be w n pre post h) refl

-- one byte
pub byte_be : (b : ℕ) → b < 256 → b ∷ [] ≡ be 1 b
unfolding be
byte_be b h = let e : b ≡ b % 256 = omega arith in ap (λ (n : ℕ). n ∷ []) e

pub byte_back : (b : ℕ) (pre post : List ℕ) → b < 256 → read_number 1 (pre ++ (b ∷ [] ++ post)) (length pre) ≡ got b (length pre + 1)
byte_back b pre post h = ap (λ (bs : List ℕ). read_number 1 (pre ++ (bs ++ post)) (length pre)) (byte_be b h) ∙ number_back 1 b pre post (omega arith)

-- a string: the first zero of bytes without zeros is the one after them
zero_by : (b : ℕ) (s post : List ℕ) (t : Bool) → eqb b 0 ≡ t → not t && no_zero s ≡ true → (no_zero s ≡ true → zero_in (s ++ 0 ∷ post) ≡ some (length s)) → cond t (some 0) (one_more (zero_in (s ++ 0 ∷ post))) ≡ some (suc (length s))
unfolding one_more
zero_by b s post true e h ih = absurd (false≢true h)
zero_by b s post false e h ih = rw (ih h) refl

zero_after : (s post : List ℕ) → no_zero s ≡ true → zero_in (s ++ 0 ∷ post) ≡ some (length s)
unfolding zero_in no_zero
zero_after [] post h = refl
zero_after (b ∷ s) post h = zero_by b s post (eqb b 0) refl h (zero_after s post)

text_back : (s pre post : List ℕ) → no_zero s ≡ true → read_text (pre ++ ((s ++ 0 ∷ []) ++ post)) (length pre) ≡ got (record { start = length pre; len = length s }) (length pre + length (s ++ 0 ∷ []))
unfolding read_text text_at
text_back s pre post h =
    let l : length pre + length s + 1 ≡ length pre + length (s ++ 0 ∷ []) = simp length-append (omega arith) in
    rw (append_assoc s (0 ∷ []) post, drop-append_seam pre (s ++ 0 ∷ post), zero_after s post h, l) refl

-- a value
null_back : (pre post : List ℕ) → read_value (pre ++ (be 4 (bits_of 4 (negsuc 0)) ++ post)) (length pre) ≡ got none (length pre + 4)
unfolding read_value value_at
null_back pre post = rw (number_back 4 (bits_of 4 (negsuc 0)) pre post (bits_below 3 (negsuc 0) (omega arith)), signed_bits 3 (negsuc 0) (omega arith)) refl

some_back : (s pre post : List ℕ) → length s < 256 ^ 4 / 2 → read_value (pre ++ ((be 4 (length s) ++ s) ++ post)) (length pre) ≡ got (some (record { start = length pre + 4; len = length s })) (length pre + length (be 4 (length s) ++ s))
unfolding read_value value_at
some_back s pre post h =
    let f = pre ++ (be 4 (length s) ++ (s ++ post)) in
    let l : length pre + 4 + length s ≤ length f = simp (length-append, length-be) (omega arith) in
    let q : length pre + 4 + length s ≡ length pre + length (be 4 (length s) ++ s) = simp (length-append, length-be) (omega arith) in
    rw (append_assoc (be 4 (length s)) s post, number_back 4 (length s) pre (s ++ post) (omega arith), lower 4 (length s) h, le-leb _ _ l, q) refl

rest_back : (s pre post : List ℕ) → post ≡ [] → read_atom (rules_of 0) rest (pre ++ (s ++ post)) (length pre) ≡ got (record { start = length pre; len = length s }) (length pre + length s)
rest_back s pre post e =
    let l : length (pre ++ (s ++ post)) ≡ length pre + length s = rw e (simp (append-nil, length-append) refl) in
    let d : length (pre ++ (s ++ post)) - length pre ≡ length s = omega (arith, l) in
    rw (d, l) refl

pub atom_back : (rules : Rules) (a : Atom) (c : AtomContent a) (post : List ℕ) → T (sane_atom a) → AtomInRange a c → atom_able rules a c ≡ true → LastAtom a post → ReadsBack atom_bytes atom_slot (read_atom rules) a c post
unfolding atom_bytes value_bytes atom_slot value_slot AtomInRange ValueInRange atom_able
atom_back rules (unsigned w) n post t r h l pre = rw (length-be w n) (number_back w n pre post r)
atom_back rules (signed zero) z post t r h l pre = absurd t
atom_back rules (signed (suc v)) z post t r h l pre =
    rw (number_back (suc v) (bits_of (suc v) z) pre post (bits_below v z r), signed_bits v z r, length-be (suc v) (bits_of (suc v) z)) refl
atom_back rules (one_of bs) b post t r h l pre = rw (byte_back b pre post r, h) refl
atom_back rules text s post t r h l pre = text_back s pre post h
atom_back rules value none post t r h l pre = rw (length-be 4 (bits_of 4 (negsuc 0))) (null_back pre post)
atom_back rules value (some s) post t r h l pre = some_back s pre post r.1
atom_back rules rest s post t r h l pre = rest_back s pre post l

-- ---- what was read is the bytes of a right content

-- a number
pub record NumberWas (w : ℕ) (f : List ℕ) (p n q : ℕ) : Type 0 where
  pub below : n < 256 ^ w
  pub split : drop p f ≡ be w n ++ drop q f
  pub next : q ≡ p + w
  pub within : q ≤ length f

pub number_was : (w : ℕ) (f : List ℕ) (p n q : ℕ) → Bytes f → read_number w f p ≡ got n q → NumberWas w f p n q
number_was w f p n q b e =
    let h = whole w f p n q e in
    let l : p + w ≤ length f = omega (arith, h.fits, h.next) in
    record {
      below = rw h.is (number_at_below w p f b l);
      split = rw (h.is, be_at w p f b l, h.next, ← drop-drop w p f) (sym (take-append-drop w (drop p f)));
      next = h.next;
      within = h.fits;
    }

-- a string: up to the first zero there is none
record Ended (g : List ℕ) (n : ℕ) : Type 0 where
  pub content : List ℕ
  pub long : length content ≡ n
  pub plain : no_zero content ≡ true
  pub split : g ≡ content ++ 0 ∷ drop (suc n) g

ended_by : (b : ℕ) (g : List ℕ) (n : ℕ) (t : Bool) (z : Option ℕ) → eqb b 0 ≡ t → cond t (some 0) (one_more z) ≡ some n → ((m : ℕ) → z ≡ some m → Ended g m) → Ended (b ∷ g) n
unfolding one_more no_zero
ended_by b g n true z e h ih =
    let q : 0 ≡ n = cc in
    rw (← q) (record { content = []; long = refl; plain = refl; split = rw (eqb-true b 0 e) refl })
ended_by b g n false none e h ih = absurd (zero_one cc)
ended_by b g n false (some m) e h ih =
    let q : suc m ≡ n = cc in
    let r = ih m refl in
    rw (← q) (record { content = b ∷ r.content; long = ap suc r.long; plain = rw e r.plain; split = ap (λ (l : List ℕ). b ∷ l) r.split })

ended : (g : List ℕ) (n : ℕ) → zero_in g ≡ some n → Ended g n
unfolding zero_in
ended [] n e = absurd (zero_one cc)
ended (b ∷ g) n e = ended_by b g n (eqb b 0) (zero_in g) refl e (ended g)

-- a part of bytes is bytes
bytes_before : (s t : List ℕ) → Bytes (s ++ t) → Bytes s
unfolding Bytes
bytes_before [] t b = tt
bytes_before (x ∷ s) t b = (b.0, bytes_before s t b.1)

abbrev pub AtomWas : Rules → (a : Atom) → List ℕ → ℕ → AtomSlot a → ℕ → Type 0
AtomWas rules a f p v q = Was atom_bytes atom_slot (read_atom rules) AtomInRange (atom_able rules) a f p v q

module _ (rules : Rules) (f : List ℕ) (b : Bytes f) (p : ℕ) where
  text_by : (z : Option ℕ) (v : Span) (q : ℕ) → zero_in (drop p f) ≡ z → text_at p z ≡ got v q → AtomWas rules text f p v q
  unfolding text_at atom_bytes atom_slot AtomInRange atom_able
  text_by none v q h e = absurd (zero_one cc)
  text_by (some n) v q h e =
      let t = ended (drop p f) n h in
      let ev : ◌≡◌ {A = Span} (record { start = p; len = n }) v = cc in
      let eq : p + n + 1 ≡ q = cc in
      let l : length (t.content ++ 0 ∷ []) ≡ n + 1 = simp length-append (omega (arith, t.long)) in
      let k : p + suc n ≡ q = omega arith in
      let d : drop (suc n) (drop p f) ≡ drop q f = drop-drop (suc n) p f ∙ ap (λ (k : ℕ). drop k f) k in
      let s : drop p f ≡ (t.content ++ 0 ∷ []) ++ drop q f = t.split ∙ rw (d, append_assoc t.content (0 ∷ []) (drop q f)) refl in
      record {
        content = t.content;
        in_range = bytes_before t.content _ (rw t.split at (bytes_drop p f b));
        writable = t.plain;
        is = sym ev ∙ ap (λ (k : ℕ). record { start = p; len = k }) (sym t.long);
        split = s;
        next = omega (arith, l);
        within = omega (arith, simp (length-drop, length-append) at (ap length s), t.long);
      }

  pub text_was : (v : Span) (q : ℕ) → read_text f p ≡ got v q → AtomWas rules text f p v q
  unfolding read_text
  text_was v q e = text_by (zero_in (drop p f)) v q refl e

  -- an unsigned number
  unsigned_was : (w n q : ℕ) → read_number w f p ≡ got n q → AtomWas rules (unsigned w) f p n q
  unfolding atom_bytes atom_slot AtomInRange atom_able
  unsigned_was w n q e =
      let h = number_was w f p n q b e in
      record { content = n; in_range = h.below; writable = refl; is = refl; split = h.split; next = h.next ∙ ap (λ (k : ℕ). p + k) (sym (length-be w n)); within = h.within }

  -- a signed one
  signed_by : (v : ℕ) (r : Read ℕ) (z : ℤ) (q : ℕ) → read_number (suc v) f p ≡ r → and_then r (λ n a. got (signed_of (suc v) n) a) ≡ got z q → AtomWas rules (signed (suc v)) f p z q
  unfolding atom_bytes atom_slot AtomInRange atom_able
  signed_by v (bad k x) z q r e = absurd (zero_one cc)
  signed_by v (got n a) z q r e =
      let ez : signed_of (suc v) n ≡ z = cc in
      let ea : a ≡ q = cc in
      let h = number_was (suc v) f p n q b (r ∙ ap (got n) ea) in
      rw (← ez) (record {
        content = signed_of (suc v) n;
        in_range = signed_in_range v n h.below;
        writable = refl;
        is = refl;
        split = rw (bits_signed v n h.below) h.split;
        next = h.next ∙ ap (λ (k : ℕ). p + k) (sym (length-be (suc v) _));
        within = h.within;
      })

  -- one of some bytes
  one_of_test : (bs : List ℕ) (n a : ℕ) (t : Bool) (v q : ℕ) → is_one_of n bs ≡ t → read_number 1 f p ≡ got n a → cond t (got n a) (bad not_allowed p) ≡ got v q → AtomWas rules (one_of bs) f p v q
  unfolding atom_bytes atom_slot AtomInRange atom_able
  one_of_test bs n a false v q m r e = absurd (zero_one cc)
  one_of_test bs n a true v q m r e =
      let en : n ≡ v = cc in
      let ea : a ≡ q = cc in
      let h = number_was 1 f p n q b (r ∙ ap (got n) ea) in
      rw (← en) (record { content = n; in_range = h.below; writable = m; is = refl; split = h.split ∙ ap (λ (bs : List ℕ). bs ++ drop q f) (sym (byte_be n h.below)); next = h.next; within = h.within })

  one_of_by : (bs : List ℕ) (r : Read ℕ) (v q : ℕ) → read_number 1 f p ≡ r → and_then r (λ n a. cond (is_one_of n bs) (got n a) (bad not_allowed p)) ≡ got v q → AtomWas rules (one_of bs) f p v q
  one_of_by bs (bad k x) v q r e = absurd (zero_one cc)
  one_of_by bs (got n a) v q r e = one_of_test bs n a (is_one_of n bs) v q refl r e

  -- a value: its length word was read, and says how many bytes it has, or NULL
  value_test : (n a : ℕ) (t : Bool) (v : Option Span) (q : ℕ) → NumberWas 4 f p n a → n < 256 ^ 4 / 2 → leb (a + n) (length f) ≡ t → cond t (got (some (record { start = a; len = n })) (a + n)) (bad cut p) ≡ got v q → AtomWas rules value f p v q
  unfolding atom_bytes value_bytes atom_slot value_slot AtomInRange ValueInRange atom_able
  value_test n a false v q h s m e = absurd (zero_one cc)
  value_test n a true v q h s m e =
      let ev : ◌≡◌ {A = Option Span} (some (record { start = a; len = n })) v = cc in
      let eq : a + n ≡ q = cc in
      let fits : a + n ≤ length f = leb-true _ _ m in
      let c = take n (drop a f) in
      let long : length c ≡ n = length-take-le n (drop a f) (simp length-drop (omega arith)) in
      let rest : drop a f ≡ c ++ drop q f = sym (take-append-drop n (drop a f)) ∙ rw (drop-drop n a f, eq) refl in
      let size : length (be 4 (length c) ++ c) ≡ 4 + n = simp (length-append, length-be) (omega (arith, long)) in
      record {
        content = some c;
        in_range = (bytes_take n (drop a f) (bytes_drop a f b), rw long s);
        writable = refl;
        is = sym ev ∙ rw (long, h.next) refl;
        split = h.split ∙ ap (λ (r : List ℕ). be 4 n ++ r) rest ∙ sym (append_assoc (be 4 n) c (drop q f)) ∙ ap (λ (k : ℕ). (be 4 k ++ c) ++ drop q f) (sym long);
        next = omega (arith, h.next, size);
        within = omega arith;
      }

  value_sign : (n a : ℕ) (z : ℤ) (v : Option Span) (q : ℕ) → NumberWas 4 f p n a → signed_of 4 n ≡ z → value_at z f p a ≡ got v q → AtomWas rules value f p v q
  unfolding value_at bits_of atom_bytes value_bytes atom_slot value_slot AtomInRange ValueInRange atom_able
  value_sign n a (negsuc (suc m)) v q h s e = absurd (zero_one cc)
  value_sign n a (negsuc zero) v q h s e =
      let ev : ◌≡◌ {A = Option Span} none v = cc in
      let ea : a ≡ q = cc in
      let bits : bits_of 4 (negsuc 0) ≡ n = ap (bits_of 4) (sym s) ∙ bits_signed 3 n h.below in
      record { content = none; in_range = tt; writable = refl; is = sym ev; split = rw (bits, ← ea) h.split; next = sym ea ∙ rw (length-be 4 (bits_of 4 (negsuc 0))) h.next; within = rw (← ea) h.within }
  value_sign n a (pos m) v q h s e =
      let same : m ≡ n = ap (bits_of 4) (sym s) ∙ bits_signed 3 n h.below in
      let small : mag (signed_of 4 n) < 256 ^ 4 / 2 = signed_in_range 3 n h.below in
      let less : m < 256 ^ 4 / 2 = rw s at small in
      value_test m a (leb (a + m) (length f)) v q (rw same h) less refl e

  value_by_lem : (r : Read ℕ) (v : Option Span) (q : ℕ) → read_number 4 f p ≡ r → and_then (and_then r (λ n a. got (signed_of 4 n) a)) (λ z a. value_at z f p a) ≡ got v q → AtomWas rules value f p v q
  value_by_lem (bad k x) v q r e = absurd (zero_one cc)
  value_by_lem (got n a) v q r e = value_sign n a (signed_of 4 n) v q (number_was 4 f p n a b r) refl e

  value_was : (v : Option Span) (q : ℕ) → read_value f p ≡ got v q → AtomWas rules value f p v q
  unfolding read_value
  value_was v q e = value_by_lem (read_number 4 f p) v q refl e

  -- the rest
  rest_was : (v : Span) (q : ℕ) → p ≤ length f → read_atom rules rest f p ≡ got v q → AtomWas rules rest f p v q
  unfolding atom_bytes atom_slot AtomInRange atom_able
  rest_was v q l e =
      let ev : ◌≡◌ {A = Span} (record { start = p; len = length f - p }) v = cc in
      let eq : length f ≡ q = cc in
      let none : drop q f ≡ [] = rw (← eq) (drop-length f) in
      record { content = drop p f; in_range = bytes_drop p f b; writable = refl; is = sym ev ∙ rw (length-drop p f) refl; split = rw (none, append-nil (drop p f)) refl; next = simp length-drop (omega arith); within = omega arith }

  pub atom_was : (a : Atom) → T (sane_atom a) → (v : AtomSlot a) (q : ℕ) → p ≤ length f → read_atom rules a f p ≡ got v q → AtomWas rules a f p v q
  atom_was (unsigned w) t v q l e = unsigned_was w v q e
  atom_was (signed zero) t v q l e = absurd t
  atom_was (signed (suc w)) t v q l e = signed_by w (read_number (suc w) f p) v q refl e
  atom_was (one_of bs) t v q l e = one_of_by bs (read_number 1 f p) v q refl e
  atom_was text t v q l e = text_was v q e
  atom_was value t v q l e = value_was v q e
  atom_was rest t v q l e = rest_was v q l e
