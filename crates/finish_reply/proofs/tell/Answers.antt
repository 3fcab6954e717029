-- `tell` shows the added entries, and the file of the whole.
use native.Mathlib.Omega.{arith}
use mathlib.Core.Path.{refl}
use Rattle.reply.proofs.Showing.{shown}
use Rattle.finish_reply.proofs.tell.Goals as goal

pub returns : goal.returns
returns c = record { text = shown c.put_counted-text.ensures.laid (omega (arith, c.put_counted-text.ensures.upper_bound, c.requires.0.few_added, c.requires.1)); file = c.write_whole-size.ensures; status = refl }
