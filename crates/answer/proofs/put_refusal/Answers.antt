-- `put_refusal` lays the word and then the line.
use Rattle.answer.proofs.Laying.{then_laid, line_laid}
use Rattle.answer.proofs.put_refusal.Goals as goal

pub returns-clause-laid : goal.returns-clause-laid
returns-clause-laid c = then_laid c.put-after.ensures (line_laid c.refused_line.ensures c.put_line.ensures)
