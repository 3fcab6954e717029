-- `check` shows the verdict's two lines.
use native.Mathlib.Omega.{arith}
use mathlib.Core.Path.{ap, ◌∙◌}
use lib.ListN.{length}
use Rattle.answer.specs.Text.{legal, source, count_line}
use Rattle.answer.proofs.Laying.{then_laid, laid_as, of_line}
use Rattle.reply.proofs.Showing.{shown}
use Rattle.reply.proofs.Judged.{answers}
use Rattle.check_reply.proofs.Answers.{check_passes}
use Rattle.check_reply.proofs.check.Goals as goal

pub returns-in-Ok : goal.returns-in-Ok
returns-in-Ok c =
    let (passed, count, load) = check_passes _ c.args.placement.now.wires.now c.args.placement.now.offsets.now c.check.ensures c.in-Ok.legal c.in-Ok.is in
    let first = of_line _ c.count_line.ensures in
    let last = of_line _ c.count_line-in-Ok.ensures in
    let laid = then_laid (laid_as (first ∙ ap (count_line legal) count) c.put_line-after.ensures) (laid_as (last ∙ ap (count_line source) load) c.put_line-text.ensures) in
    answers passed (shown laid (omega (arith, ap length first, ap length last, c.requires)))
