-- The loop keeps that what is counted and what the wires from i on add make the whole.
use Rattle.adding.specs.Walks.{IsReady}
use Rattle.adding.proofs.Summing.{Counting}
use Rattle.adding.proofs.Half.count_all.Given as goal

abbrev pub invariant-loop-i : goal.invariant-loop-i
invariant-loop-i l = (r : IsReady l.self) × Counting r l.i l.next l.to
