-- What the code's types say in the words of the definitions: each refusal's number (docs/FORMAT.md 6) and each mode's, and each case of an answer.
use Rattle.std.specs.Prelude.{ℕ, Result, Ok, Err}
use Rattle.protocol.specs.declared.Element.{Element}
use Rattle.protocol.specs.declared.Message.{Message}
use Rattle.protocol.specs.declared.mode.Mode.TheVariants as M
use Rattle.protocol.specs.declared.mode.Mode.{Mode}
use Rattle.protocol.specs.declared.refusal.Refusal.TheVariants as R
use Rattle.protocol.specs.declared.refusal.Refusal.{Refusal}
use Rattle.protocol.specs.declared.refusal.Refused.{Refused}
use Rattle.protocol.specs.declared.refusal.Unread.TheVariants as U
use Rattle.protocol.specs.declared.refusal.Unread.{Unread}
use Rattle.protocol.specs.Decoded as D
use Rattle.protocol.specs.Decoded.{Decoded}
use Rattle.protocol.specs.Encoded as N
use Rattle.protocol.specs.Encoded.{Encoded}
use Rattle.protocol.specs.Found as F
use Rattle.protocol.specs.Found.{Found}
use Rattle.protocol.specs.Refusals.{mode_unknown, type_unknown, length_too_small, length_above_limit, bad_count, cut, not_allowed, bytes_left, output_too_short, not_representable, no_such_element}

abbrev pub number_of : Refusal → ℕ
number_of R.ModeUnknown = mode_unknown
number_of R.TypeUnknown = type_unknown
number_of R.LengthTooSmall = length_too_small
number_of R.LengthAboveLimit = length_above_limit
number_of R.BadCount = bad_count
number_of R.Cut = cut
number_of R.NotAllowed = not_allowed
number_of R.BytesLeft = bytes_left
number_of R.OutputTooShort = output_too_short
number_of R.NotRepresentable = not_representable
number_of R.NoSuchElement = no_such_element

abbrev pub mode_number : Mode → ℕ
mode_number M.Frontend = 0
mode_number M.Backend = 1
mode_number M.CancelRequest = 2
mode_number M.TlsAnswer = 3
mode_number M.GssAnswer = 4
mode_number M.FirstPacket = 5

abbrev pub decoded : Result (Message × ℕ) Unread → Decoded
decoded (Ok (m, n)) = D.Record m n
decoded (Err U.NeedMore) = D.NeedMore
decoded (Err (U.Refused r)) = D.Refused (number_of r.refusal) r.place

abbrev pub encoded : Result ℕ Refused → Encoded
encoded (Ok n) = N.Done n
encoded (Err r) = N.Refused (number_of r.refusal) r.place

abbrev pub found : Result Element Unread → Found
found (Ok e) = F.Is e
found (Err U.NeedMore) = F.NeedMore
found (Err (U.Refused r)) = F.Refused (number_of r.refusal) r.place
