-- `put_counted` lays the count's line and then the entries'.
use Rattle.answer.proofs.Laying.{then_laid, line_laid}
use Rattle.answer.specs.Text.{counted_text}
use Rattle.answer.proofs.put_counted.Goals as goal

pub returns-clause-laid : goal.returns-clause-laid
unfolding counted_text
returns-clause-laid c = then_laid (line_laid c.count_line.ensures c.put_line-after.ensures) c.put_places.ensures.laid
