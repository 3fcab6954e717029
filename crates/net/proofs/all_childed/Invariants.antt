-- `all_childed` answers the lowest childless node: its loop goes through `judge_each`, one node a turn.
use lib.ListN.{get_or}
use Rattle.rules.specs.Judge.{has_child}
use Rattle.rules.proofs.Each.{Going}
use Rattle.net.proofs.all_childed.Given as goal

abbrev pub invariant-loop-i : goal.invariant-loop-i
invariant-loop-i l = Going (λ j. has_child j (get_or l.kinds j 0) (get_or l.counts j 0)) l.n 0 l.i
