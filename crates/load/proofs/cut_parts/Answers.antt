use mathlib.Core.Path.{refl}
use native.Mathlib.Omega.{arith}
use Rattle.load.proofs.Parts.{parts_cut}
use Rattle.rules.specs.Load.{entries}
use Rattle.load.proofs.Wire.{wire_within, entry_on}
use Rattle.load.proofs.cut_parts.Goals as goal

pub loop-k-init : goal.loop-k-init
unfolding entries
loop-k-init c = c.requires.parts

pub bounds-net-i : goal.bounds-net-i
bounds-net-i c = let e = entry_on c.args.on.now.placed c.loop-k.k (omega arith) c.entry-entry.ensures in omega (arith, e.within, c.args.on.now.placed.sound.wires_long)

pub overflow_sub-own : goal.overflow_sub-own
overflow_sub-own c = (entry_on c.args.on.now.placed c.loop-k.k (omega arith) c.entry-entry.ensures).offset

pub bounds-own-i : goal.bounds-own-i
bounds-own-i c = let e = entry_on c.args.on.now.placed c.loop-k.k (omega arith) c.entry-entry.ensures in omega (arith, e.within, c.args.on.now.placed.sound.few)

pub bounds-shut-i : goal.bounds-shut-i
bounds-shut-i c = let e = entry_on c.args.on.now.placed c.loop-k.k (omega arith) c.entry-entry.ensures in omega (arith, e.within, c.args.on.now.placed.sound.few)

pub loop-k-preserved : goal.loop-k-preserved
loop-k-preserved c =
    let w = wire_within c.args.on.now.placed c.loop-k.k (omega arith) in
    rw c.entry-entry.ensures (parts_cut c.args.on.now.placement.wires.now c.args.on.now.placement.offsets.now c.loop-k.k c.loop-k.invariant c.args.on.now.placed.even (omega arith) (omega (arith, w, c.args.on.now.placed.sound.few)) _ refl)
