use native.Mathlib.Omega.{arith}
use Rattle.load.proofs.Parts.{bare_all}
use Rattle.load.proofs.bare_parts.Goals as goal

pub returns : goal.returns
returns c = bare_all c.loop-i.invariant c.args.on.now.placed.sound (omega (arith, c.args.on.now.placed.sound.wires_long))
