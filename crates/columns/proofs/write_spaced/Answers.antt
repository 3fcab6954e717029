use Rattle.std.proofs.Common.{arith}
use Rattle.columns.proofs.Spacing.{spacing_more, spacing_all}
use Rattle.columns.proofs.write_spaced.Goals as goal

pub loop-j-preserved : goal.loop-j-preserved
loop-j-preserved c = spacing_more c.loop-j.invariant (omega arith) _ c.min-offset.ensures

pub returns : goal.returns
returns c = spacing_all c.loop-j.invariant (omega arith)
