-- `senses::count_turns` meets its contract. The invariant: the table is right for a placement of the first k entries.
use Rattle.load.proofs.Parts.{offsets_to}
use Rattle.senses.specs.Parity.{Counted}
use Rattle.senses.proofs.count_turns.Given as goal

abbrev pub invariant-loop-wire : goal.invariant-loop-wire
invariant-loop-wire l = Counted (offsets_to l.on.placement.wires.now l.on.placement.offsets.now l.wire-index) 0 l.odd
