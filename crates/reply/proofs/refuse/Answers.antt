-- `refuse` shows the line, and no file.
use native.Mathlib.Omega.{arith}
use mathlib.Core.Path.{refl}
use Rattle.reply.proofs.Showing.{shown, nothing}
use Rattle.reply.proofs.refuse.Goals as goal

pub returns : goal.returns
returns c = λ file. record { text = shown c.put_refusal.ensures.laid (omega (arith, c.put_refusal.ensures.upper_bound, c.requires)); file = nothing file; status = refl }
