-- The choice by a tag, and by a mode: an arm of a `match` is a row of the table.
use Prim.Native.Nat.{ℕ, ◌≤◌, ◌<◌}
use mathlib.Core.List.{List, []}
use mathlib.Core.Option.{Option, some, none}
use mathlib.Core.Path.{◌≡◌, refl}
use native.Mathlib.Omega.{arith}
use borrow.Author.Tests.{lt-ltb, le-ltb, eq-eqb, ne_eqb}
use lib.ListN.{length}
use lib.Seq.{length-take-le}
use Rattle.protocol.specs.Decoded as D
use Rattle.protocol.specs.declared.Message.{Message}
use Rattle.protocol.specs.declared.Rules.{Rules}
use Rattle.protocol.specs.declared.kinds.Line.{Line}
use Rattle.protocol.specs.Decode.{typed_by, untyped_by, bare_by, tag_place, tag_at, header_in, header_by, header_of, closed, decoded_by, decode_by, decode_in, decode_of}
use Rattle.protocol.specs.Kinds.{Envelope, typed, untyped, bare, Kind, Mode, mode_of, kind_in}
use Rattle.protocol.specs.Refusals.{type_unknown}
use Rattle.protocol.proofs.Find.{Apart, keys_onto, tag_of, kind_apart}
use Rattle.envelope.specs.Steps.{end_in, decode_made}

-- where a tag ends: fewer bytes are not looked at
abbrev tag_end : Envelope → ℕ
tag_end typed = 1
tag_end untyped = 8
tag_end bare = 1

module _ (rules : Rules) (s : List ℕ) where
  cut_by : (e : Envelope) (k : Option Kind) → length s < tag_end e → D.NeedMore ≡ decode_by rules s (header_in e k s)
  unfolding decode_by header_in
  cut_by typed k h = rw (eq-eqb (length s) 0 (omega arith)) refl
  cut_by untyped k h = rw (lt-ltb (length s) 8 h) refl
  cut_by bare k h = rw (eq-eqb (length s) 0 (omega arith)) refl

  unknown_by : (e : Envelope) → tag_end e ≤ length s → D.Refused type_unknown (tag_place e) ≡ decode_by rules s (header_in e none s)
  unfolding decode_by header_in typed_by untyped_by bare_by
  unknown_by typed h = rw (ne_eqb (length s) 0 (omega arith)) refl
  unknown_by untyped h = rw (le-ltb (length s) 8 h) refl
  unknown_by bare h = rw (ne_eqb (length s) 0 (omega arith)) refl

  module _ (m : Mode) where
    -- the tag has not arrived
    pub cut : length s < tag_end m.envelope → D.NeedMore ≡ decode_in rules m s
    unfolding decode_in header_by
    cut h = cut_by m.envelope _ h

    -- the tag tells the kind that the table has for it
    pub arm : {t n : ℕ} → t ≡ tag_at m.envelope s → t ≡ n → decode_by rules s (header_in m.envelope (kind_in m n) s) ≡ decode_in rules m s
    unfolding decode_in header_by
    arm tag is = rw (← tag, is) refl

    -- or none
    pub unknown : {t : ℕ} → t ≡ tag_at m.envelope s → tag_end m.envelope ≤ length s → Apart t (keys_onto tag_of m.kinds []) → D.Refused type_unknown (tag_place m.envelope) ≡ decode_in rules m s
    unfolding decode_in header_by
    unknown {t} tag h apart = rw (← tag, kind_apart m t apart) (unknown_by m.envelope h)

    -- the mode that the rules name
    pub in_mode : mode_of rules ≡ some m → decode_in rules m s ≡ decode_of rules s
    unfolding decode_in decode_of header_of
    in_mode e = rw e refl

  -- a frame of one byte has no body
  pub lone : (l : Line) (message : Message) → 1 ≤ length s → D.Record message 1 ≡ decode_made rules bare l [] (λ _. message) s
  unfolding end_in closed decoded_by
  lone l message h = rw (ne_eqb (length s) 0 (omega arith), length-take-le 1 s h) refl
