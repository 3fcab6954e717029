-- The loop keeps the list of what is written and what comes after it.
use Rattle.std.proofs.Common.{[], ◌-◌, length}
use Rattle.states.specs.States.{model_of}
use Rattle.adding.specs.Walks.{Ready}
use Rattle.adding.proofs.Summing.{Written}
use Rattle.buffered.proofs.write.Given as goal

abbrev pub invariant-loop-to : goal.invariant-loop-to
invariant-loop-to l = (r : Ready (model_of l.c) l.wire l.tables.below l.tables.on [] []) × Written r l.initial.wires l.initial.offsets l.i 0 l.to l.wires l.offsets

abbrev pub decreases-loop-to : goal.decreases-loop-to
decreases-loop-to l = length l.wire - l.i
