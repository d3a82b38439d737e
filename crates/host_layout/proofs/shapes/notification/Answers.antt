-- `host_layout::shapes::notification` meets its contract: its number's bits are laid out.
use mathlib.Core.Path.{refl}
use mir.Syntax.{w32}
use borrow.Author.Rules.{rules}
use Rattle.protocol.specs.Kinds.{notification_response}
use Rattle.protocol.specs.Views.{view}
use Rattle.host_layout.specs.LaidOut.{numbers_of}
use Rattle.host_layout.proofs.Signs.{passed}
use Rattle.host_layout.proofs.shapes.notification.Goals as goal

pub returns : goal.returns
unfolding numbers_of view notification_response
returns c = rw (← passed w32 c.args.m.pid (search rules) c.bits-pid.ensures) refl
