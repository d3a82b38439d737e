-- Law 4: a record or a refusal is given again for every longer buffer.
use Prim.Native.Nat.{ℕ}
use mathlib.Core.Bool.{false}
use mathlib.Core.List.{List, ◌++◌}
use mathlib.Core.Path.{◌≡◌, refl, ap}
use lib.Seq.{take-append-le}
use Rattle.protocol.specs.declared.Rules.{Rules}
use Rattle.protocol.specs.Answers.{of_decoded}
use Rattle.protocol.specs.Decode.{Header, more, refuse, framed, header_of, decode_by, decode_of}
use Rattle.protocol.proofs.Basics.{zero_one}
use Rattle.protocol.proofs.Framed.{framed_is, framed_ends}
use Rattle.laws.specs.Statements.{MoreBytes, the_decoder}
use Rattle.laws.proofs.Headers.{decoding_waits, header_again}

-- where decoding answers, its header does not wait
settled : (rules : Rules) (s : List ℕ) → (of_decoded (decode_of rules s)).need_more ≡ false → header_of rules s ≡ more → ⊥
settled rules s answers waits =
    let needs = (decoding_waits rules s).1 waits in
    zero_one cc

-- what is made of a header is the same with more bytes, since a frame's own bytes are
longer : (rules : Rules) (s t : List ℕ) (h : Header) → header_of rules s ≡ h → decode_by rules (s ++ t) h ≡ decode_by rules s h
unfolding decode_by
longer rules s t more e = refl
longer rules s t (refuse number place) e = refl
longer rules s t (framed k start end) e =
    let within = (framed_ends rules s k start end (framed_is rules s k start end e)).1 in
    rw (take-append-le end s t within) refl

-- more bytes never change an answer
pub more_bytes : MoreBytes the_decoder
unfolding decode_of
more_bytes rules s t answers = rw (header_again s t rules (settled rules s answers)) (ap of_decoded (longer rules s t (header_of rules s) refl))
