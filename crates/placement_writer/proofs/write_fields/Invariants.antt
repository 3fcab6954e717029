-- `write_fields` lays the count, each entry and the end, each in the rest of the buffer, behind its predecessor.
use Rattle.placement_writer.proofs.Writing.{Putting}
use Rattle.placement_writer.proofs.write_fields.Given as goal

abbrev pub invariant-loop-i : goal.invariant-loop-i
invariant-loop-i l = Putting l.placement.wires.now l.placement.offsets.now l.initial.out l.out l.at l.i
