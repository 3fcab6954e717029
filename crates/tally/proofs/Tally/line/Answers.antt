-- `line` lays five words, each with its number, and the end.
use native.Mathlib.Omega.{arith}
use Rattle.answer.proofs.Digits.{said_in_64}
use Rattle.answer.proofs.Laying.{then_laid}
use Rattle.reply.proofs.Showing.{shown}
use Rattle.tally.specs.Tallied.{tally_line}
use Rattle.tally.proofs.Tally.line.Goals as goal

pub returns : goal.returns
unfolding tally_line
returns c =
    let words = then_laid (then_laid (then_laid (then_laid c.say-at.ensures c.say-at-2.ensures) c.say-at-3.ensures) c.say-at-4.ensures) c.say-at-5.ensures in
    shown (then_laid words c.put.ensures) (grind (arith, said_in_64))
