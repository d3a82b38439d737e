-- `codec::Cursor::formats` meets its contract.
use mathlib.Core.Path.{◌∙◌}
use Rattle.codec.proofs.Lists.{format_list}
use Rattle.codec.proofs.Cursor.formats.Goals as goal

pub returns : goal.returns
returns c = let a = c.args in
    c.fixed.ensures ∙ format_list a.rules a.reading a.frame.now a.self.at
