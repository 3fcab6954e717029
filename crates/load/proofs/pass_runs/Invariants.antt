-- `load::pass_runs` meets its contract. The invariant is what it promises, of the nodes passed so far.
use Prim.Native.Nat.{◌-◌}
use lib.ListN.{length}
use Rattle.load.specs.Next.{Passed}
use Rattle.load.proofs.pass_runs.Given as goal

abbrev pub invariant-loop-j : goal.invariant-loop-j
invariant-loop-j l = Passed l.parent l.node l.after l.j

abbrev pub decreases-loop-j : goal.decreases-loop-j
decreases-loop-j l = length l.parent - l.j
