-- `load::next_child` meets its contract. The invariant: none of the nodes past `after` and before j is a child.
use Rattle.load.specs.Next.{Passed}
use Rattle.load.proofs.next_child.Given as goal

abbrev pub invariant-loop-j : goal.invariant-loop-j
invariant-loop-j l = Passed l.parent l.node l.after l.j
