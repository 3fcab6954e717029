-- `solve` says what there is to say, or the refusal.
use mathlib.Core.List.{[]}
use Rattle.reply.specs.Said.{refusal}
use Rattle.solve_reply.proofs.solve.Goals as goal

pub returns-in-Err : goal.returns-in-Err
returns-in-Err c = record { said = refusal [] c.in-Err.why; right = c.in-Err.ensures; replies = c.refuse.ensures _ }
