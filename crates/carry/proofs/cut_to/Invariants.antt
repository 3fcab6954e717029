-- `carry::cut_to` meets its contract. The invariant is Cut.antt's.
use Rattle.carry.proofs.Cut.{Cutting}
use Rattle.carry.proofs.cut_to.Given as goal

abbrev pub invariant-loop-k : goal.invariant-loop-k
invariant-loop-k l = Cutting l.wire l.wires l.initial.offsets l.k l.offsets
