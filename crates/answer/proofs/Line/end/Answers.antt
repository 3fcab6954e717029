-- `end` lays one byte more.
use native.Mathlib.Omega.{arith}
use Rattle.answer.proofs.Laying.{continues}
use Rattle.answer.proofs.Line.end.Goals as goal

pub returns : goal.returns
returns c = continues c.put-self.ensures (omega arith)
