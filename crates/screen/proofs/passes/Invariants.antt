-- `passes` says yes only of a net that no node refuses: the loop counts each child, and the two passes beside it meet the rest.
use Rattle.rules.specs.Net.{net_of}
use Rattle.screen.specs.Screened.{Tallied}
use Rattle.screen.proofs.passes.Given as goal

abbrev pub invariant-loop-i : goal.invariant-loop-i
invariant-loop-i l = Tallied (net_of l.net) l.counts l.i
