-- `load::span_children` meets its contract. The invariant: the tables are right of the children before i.
use Rattle.load.specs.Tables.{SpansTo}
use Rattle.load.proofs.span_children.Given as goal

abbrev pub invariant-loop-i : goal.invariant-loop-i
invariant-loop-i l = SpansTo l.parent l.i l.gap l.reach
