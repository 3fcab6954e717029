-- `carry::nodes_ease` meets its contract. The invariant is Walk.antt's: the nodes from i on decide the answer.
use Rattle.rules.specs.Net.{net_of}
use Rattle.carry.proofs.Walk.{Easing}
use Rattle.carry.proofs.nodes_ease.Given as goal

abbrev pub invariant-loop-i : goal.invariant-loop-i
invariant-loop-i l = Easing (net_of l.first) (net_of l.second) l.i
