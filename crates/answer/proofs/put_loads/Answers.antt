-- `put_loads` lays the entries' lines, and then the source's.
use Rattle.answer.proofs.Laying.{then_laid, line_laid}
use Rattle.answer.specs.Text.{loads_text}
use Rattle.answer.proofs.put_loads.Goals as goal

pub returns-clause-laid : goal.returns-clause-laid
unfolding loads_text
returns-clause-laid c = then_laid c.put_entries-after.ensures.laid (line_laid c.count_line.ensures c.put_line.ensures)
