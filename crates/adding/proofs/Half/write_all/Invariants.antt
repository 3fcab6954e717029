-- The loop keeps the list of what is written and what comes after it.
use Rattle.std.proofs.Common.{◌-◌, length}
use Rattle.adding.specs.Walks.{IsReady}
use Rattle.adding.proofs.Summing.{Written}
use Rattle.adding.proofs.Half.write_all.Given as goal

abbrev pub invariant-loop-to : goal.invariant-loop-to
invariant-loop-to l = (r : IsReady l.self) × Written r l.initial.wires l.initial.offs l.i l.next l.to l.wires l.offs

abbrev pub decreases-loop-to : goal.decreases-loop-to
decreases-loop-to l = length l.self.wire.now - l.i
