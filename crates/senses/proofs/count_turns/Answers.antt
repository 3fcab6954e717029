use native.Mathlib.Omega.{arith}
use Rattle.load.proofs.Wire.{wire_within}
use Rattle.senses.proofs.Inverters.{counted_clear, counted_entry}
use Rattle.senses.proofs.count_turns.Goals as goal

pub loop-wire-init : goal.loop-wire-init
loop-wire-init c = counted_clear c.args.on.now.placement.wires.now c.args.on.now.placement.offsets.now c.args.odd.now c.requires

pub bounds-odd-i : goal.bounds-odd-i
bounds-odd-i c = omega (arith, wire_within c.args.on.now.placed c.loop-wire.wire-index (omega arith), c.args.on.now.placed.sound.few)

pub loop-wire-preserved : goal.loop-wire-preserved
loop-wire-preserved c = counted_entry c.args.on.now.placement.wires.now c.args.on.now.placement.offsets.now c.loop-wire.wire-index c.loop-wire.invariant c.args.on.now.placed.even (omega arith) (omega (arith, wire_within c.args.on.now.placed c.loop-wire.wire-index (omega arith), c.args.on.now.placed.sound.few))

pub bounds-odd-i-in-loop-wire : goal.bounds-odd-i-in-loop-wire
bounds-odd-i-in-loop-wire c = omega (arith, wire_within c.args.on.now.placed c.loop-wire.wire-index (omega arith), c.args.on.now.placed.sound.few)
