use mathlib.Core.Path.{refl}
use native.Mathlib.Omega.{arith}
use Rattle.senses.proofs.Inverters.{turned_none, counted_none, counted_more, turned_more}
use Rattle.senses.proofs.turns.Goals as goal

pub loop-i-init : goal.loop-i-init
loop-i-init c = (counted_none c.args.on.now.placed.sound _ c.args.odd.now c.requires.counted, turned_none c.args.on.now.placed.sound _ c.args.odd.now c.requires.counted.long)

pub loop-i-preserved : goal.loop-i-preserved
loop-i-preserved c =
    let (own, t) = c.loop-i.invariant in
    (counted_more c.args.on.now.placed.sound _ t own (omega arith) (omega arith) _, turned_more c.args.on.now.placed.sound _ t own (omega arith) (omega arith) _ c.requires.inverters refl)
