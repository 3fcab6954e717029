-- The loop keeps the heaviest of the wires that it has passed.
use Rattle.std.proofs.Common.{◌-◌, length}
use Rattle.buffers.proofs.Scanning.{Scan}
use Rattle.buffers.proofs.Tables.heaviest.Given as goal

abbrev pub invariant-loop-j : goal.invariant-loop-j
invariant-loop-j l = Scan l.self.links l.self.tops l.first l.pin l.best l.most l.j

abbrev pub decreases-loop-j : goal.decreases-loop-j
decreases-loop-j l = length l.self.tops - l.j
