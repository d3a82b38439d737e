-- `codec::Cursor::oids` meets its contract.
use mathlib.Core.Path.{◌∙◌}
use Rattle.codec.proofs.Lists.{oid_list}
use Rattle.codec.proofs.Cursor.oids.Goals as goal

pub returns : goal.returns
returns c = let a = c.args in
    c.fixed.ensures ∙ oid_list a.rules a.reading a.frame.now a.self.at
