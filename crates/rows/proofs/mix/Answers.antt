use native.Mathlib.Omega.{arith}
use Rattle.rows.proofs.Mixing.{mixing_more}
use Rattle.rows.proofs.mix.Goals as goal

pub loop-e-preserved : goal.loop-e-preserved
loop-e-preserved c = mixing_more c.loop-e.invariant _ c.mixed_at.ensures (omega arith)
