-- The loop keeps what is written and what is still to be written; the whole stays the same.
use Rattle.columns.proofs.Spacing.{Spacing}
use Rattle.columns.proofs.write_spaced.Given as goal

abbrev pub invariant-loop-j : goal.invariant-loop-j
invariant-loop-j l = Spacing l.initial.wires l.wires l.initial.offsets l.offsets l.at l.run.wire l.run.size l.run.lowest l.run.span l.run.count l.offset l.j
