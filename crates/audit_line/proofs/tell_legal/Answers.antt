-- `tell_legal` shows both counts.
use native.Mathlib.Omega.{arith}
use Rattle.std.proofs.lemmas.Bool.Decides.{nat_tests}
use Rattle.audit_line.proofs.Lines.{shows_line}
use Rattle.audit_line.proofs.tell_legal.Goals as goal

pub returns-then-count-least : goal.returns-then-count-least
returns-then-count-least c = record { shows = shows_line c.pair_line-line.ensures c.put_line.ensures (omega arith); found = grind (arith, nat_tests) }

pub returns-else-count-least : goal.returns-else-count-least
returns-else-count-least c = record { shows = shows_line c.pair_line-line.ensures c.put_line.ensures (omega arith); found = grind (arith, nat_tests) }
