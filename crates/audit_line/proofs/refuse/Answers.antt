-- `refuse` shows the refusal after the word.
use native.Mathlib.Omega.{arith}
use mathlib.Core.Path.{refl}
use Rattle.reply.proofs.Showing.{shown}
use Rattle.audit_line.proofs.refuse.Goals as goal

pub returns : goal.returns
returns c = record { shows = shown c.put_refusal.ensures.laid (omega (arith, c.put_refusal.ensures.upper_bound, c.requires)); found = refl }
