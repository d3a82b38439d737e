-- Where nothing was read, each call is laid out as why.
use Prim.Native.Nat.{ℕ}
use mathlib.Core.List.{List}
use mathlib.Core.Path.{◌≡◌}
use Rattle.std.specs.Prelude.{Err}
use Rattle.protocol.specs.declared.refusal.Unread.TheVariants as U
use Rattle.protocol.specs.declared.refusal.Unread.{Unread}
use Rattle.protocol.specs.Told.{decoded, found}
use Rattle.host_layout.specs.LaidOut.{element_out, laid_out, unread_out}

-- decoding, and an element call
module _ {out : List ℕ} where
  pub none_laid_out : (u : Unread) → out ≡ unread_out u → out ≡ laid_out (decoded (Err u))
  unfolding laid_out
  none_laid_out U.NeedMore e = e
  none_laid_out (U.Refused r) e = e

  pub no_element_out : (u : Unread) → out ≡ unread_out u → out ≡ element_out (found (Err u))
  unfolding element_out
  no_element_out U.NeedMore e = e
  no_element_out (U.Refused r) e = e
