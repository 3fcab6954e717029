-- The loop keeps that what is counted and what is left make the whole.
use Rattle.std.proofs.Common.{[]}
use Rattle.states.specs.States.{model_of}
use Rattle.adding.specs.Walks.{Ready}
use Rattle.adding.proofs.Summing.{Counting}
use Rattle.buffered.proofs.count.Given as goal

abbrev pub invariant-loop-i : goal.invariant-loop-i
invariant-loop-i l = (r : Ready (model_of l.c) l.wire l.tables.below l.tables.on [] []) × Counting r l.i 0 l.to
