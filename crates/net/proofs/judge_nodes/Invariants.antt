-- `judge_nodes` answers `nodes_judged`. The loop goes through `judge_each`, and the counts hold the children among the nodes before i.
use Prim.Native.Nat.{◌-◌}
use Rattle.rules.specs.Net.{net_of, places}
use Rattle.rules.specs.Judge.{node_judged}
use Rattle.net.specs.Counted.{Tallied}
use Rattle.rules.proofs.Each.{Going}
use Rattle.net.proofs.judge_nodes.Given as goal

abbrev pub invariant-loop-i : goal.invariant-loop-i
invariant-loop-i l = let n = net_of l.net in Going (λ j. node_judged n j j) (places n - 1) 1 l.i × Tallied n l.counts l.i
