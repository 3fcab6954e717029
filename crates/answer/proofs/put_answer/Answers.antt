-- `put_answer` lays the count's line and then the loads.
use Rattle.answer.proofs.Laying.{then_laid, line_laid}
use Rattle.answer.specs.Text.{answer_text}
use Rattle.answer.proofs.put_answer.Goals as goal

pub returns-clause-laid : goal.returns-clause-laid
unfolding answer_text
returns-clause-laid c = then_laid (line_laid c.count_line.ensures c.put_line-after.ensures) c.put_loads.ensures.laid
