use native.Mathlib.Omega.{arith}
use Rattle.carry.proofs.Cut.{cutting_all}
use Rattle.carry.proofs.cut_to.Goals as goal

pub returns : goal.returns
returns c = cutting_all c.loop-k.invariant c.requires.even (omega arith)
