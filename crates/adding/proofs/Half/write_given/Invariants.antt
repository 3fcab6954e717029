-- The loop keeps that what is left decides what is added, and that what is added so far is written.
use Rattle.std.proofs.Common.{ℕ, ◌-◌, List, length}
use Rattle.states.specs.States.{model_of}
use Rattle.adding.specs.Walks.{given_wires, given_offsets}
use Rattle.adding.proofs.Storing.{Writing}
use Rattle.adding.proofs.Half.write_given.Given as goal

abbrev pub invariant-loop-walk : goal.invariant-loop-walk
invariant-loop-walk l =
    (done : List ℕ) ×
    Writing (model_of l.self.cell) (given_wires l.self) (given_offsets l.self) l.from l.x l.to l.initial.wires l.initial.offs l.walk.next l.walk.to l.walk.at l.walk.load l.wires l.offs done

abbrev pub decreases-loop-walk : goal.decreases-loop-walk
decreases-loop-walk l = length (given_wires l.self) - l.walk.next
