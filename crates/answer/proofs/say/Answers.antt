-- `say` lays a word, and its number after it.
use Rattle.answer.specs.Text.{said}
use Rattle.answer.proofs.Laying.{then_laid}
use Rattle.answer.proofs.say.Goals as goal

pub returns : goal.returns
unfolding said
returns c = then_laid c.put-after.ensures c.put_number.ensures
