-- `fill` stores entry i of the file at place i of each column.
use Prim.Native.Nat.{◌≤◌}
use Rattle.placement_file.specs.File.{wire, offset, entry_at}
use Rattle.placement_reader.proofs.Filling.{Column}
use Rattle.placement_reader.proofs.fill.Given as goal

abbrev pub invariant-loop-i : goal.invariant-loop-i
invariant-loop-i l = (l.i ≤ l.count) × Column wire (entry_at l.s) l.count l.initial.wires l.wires l.i × Column offset (entry_at l.s) l.count l.initial.offsets l.offsets l.i
