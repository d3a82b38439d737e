-- What a refusal, why nothing was read, and a number that no mode has say of themselves, in letters.
use Rattle.std.specs.Prelude.{ℕ, List, ◌++◌, codes}
use Rattle.std.specs.Fmt.{decimal}
use Rattle.protocol.specs.declared.mode.UnknownMode.{UnknownMode}
use Rattle.protocol.specs.declared.refusal.Refusal.TheVariants as R
use Rattle.protocol.specs.declared.refusal.Refusal.{Refusal}
use Rattle.protocol.specs.declared.refusal.Refused.{Refused}
use Rattle.protocol.specs.declared.refusal.Unread.TheVariants as U
use Rattle.protocol.specs.declared.refusal.Unread.{Unread}

abbrev pub refusal_words : Refusal → List ℕ
refusal_words R.ModeUnknown = codes "the mode is unknown"
refusal_words R.TypeUnknown = codes "the type byte, answer byte or code is unknown"
refusal_words R.LengthTooSmall = codes "the length is too small"
refusal_words R.LengthAboveLimit = codes "the length is above the kind's limit"
refusal_words R.BadCount = codes "a count is negative, or too large for the frame"
refusal_words R.Cut = codes "a number, code byte, string or value is cut by the frame's end"
refusal_words R.NotAllowed = codes "a target, a status, or a value's length below -1"
refusal_words R.BytesLeft = codes "bytes are left over after the last field"
refusal_words R.OutputTooShort = codes "the output is too short"
refusal_words R.NotRepresentable = codes "the message cannot be written"
refusal_words R.NoSuchElement = codes "the element's number is too large, or there is no such list"

abbrev pub refused_words : Refused → List ℕ
refused_words r = refusal_words r.refusal ++ codes ", at " ++ decimal r.place

abbrev pub unread_words : Unread → List ℕ
unread_words U.NeedMore = codes "the frame's end has not arrived"
unread_words (U.Refused r) = refused_words r

abbrev pub unknown_mode_words : UnknownMode → List ℕ
unknown_mode_words m = codes "no mode has the number " ++ decimal m.0
