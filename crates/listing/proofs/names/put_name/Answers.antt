-- `listing::names::put_name` meets its contract: the letters of the name's line are the name.
use Prim.Native.Nat.{◌≤◌}
use mathlib.Core.Path.{◌≡◌, refl, ap, sym, ◌∙◌}
use native.Mathlib.Omega.{arith}
use lib.ListN.{length, take}
use lib.Seq.{length-take-le}
use Rattle.protocol.specs.Names.{name_of, letters_of}
use Rattle.protocol.proofs.Lines.{not_more, filled-length, its_letters}
use Rattle.listing.proofs.Writing.{same}
use Rattle.listing.proofs.names.put_name.Goals as goal

pub slice_bounds-name-end : goal.slice_bounds-name-end
slice_bounds-name-end c =
    let fits : c.letters_in-n.result ≤ length c.name_of-name.result = rw c.letters_in-n.ensures (not_more c.name_of-name.result) in
    fits

pub slice_bounds-put_bytes-end : goal.slice_bounds-put_bytes-end
slice_bounds-put_bytes-end c =
    let fits : c.letters_in-n.result ≤ length c.name_of-name.result = rw c.letters_in-n.ensures (not_more c.name_of-name.result) in
    sym (length-take-le _ c.name_of-name.result fits)

pub returns-clause-wrote : goal.returns-clause-wrote
returns-clause-wrote c =
    let fits : c.letters_in-n.result ≤ length c.name_of-name.result = rw c.letters_in-n.ensures (not_more c.name_of-name.result) in
    let m = c.args.message in
    let name = c.name_of-name.ensures in
    let e : take c.letters_in-n.result c.name_of-name.result ≡ letters_of (name_of m) = rw (c.letters_in-n.ensures, name) (its_letters m) in
    let full = ap length name ∙ filled-length 20 (name_of m) in
    let n = length-take-le c.letters_in-n.result c.name_of-name.result fits in
    same e (c.put_bytes.ensures.fits refl (omega (arith, fits, full, n)))
