-- `say` lays a word and its number.
use native.Mathlib.Omega.{arith}
use Rattle.answer.proofs.Laying.{continues}
use Rattle.answer.proofs.Line.say.Goals as goal

pub returns-clause-text : goal.returns-clause-text
returns-clause-text c = continues c.say-self.ensures (omega arith)
