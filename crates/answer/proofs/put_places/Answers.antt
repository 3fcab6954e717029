-- `put_places` lays one line more.
use native.Mathlib.Omega.{arith}
use mathlib.Core.Path.{sym}
use borrow.Author.Rules.{rules}
use Rattle.answer.proofs.Entries.{one_place_more}
use Rattle.answer.proofs.Laying.{then_laid, laid_as, line_laid, kept}
use Rattle.answer.proofs.put_places.Goals as goal

pub loop-k-preserved : goal.loop-k-preserved
loop-k-preserved c =
    let laid = line_laid c.place_line.ensures c.put_line-next.ensures in
    let more = one_place_more c.args.placement.now.wires.now c.args.placement.now.offsets.now c.loop-k.k c.entry.ensures (search rules) (search rules) in
    (omega (arith, laid.ends, c.place_line.ensures.short), omega (arith, kept laid), laid_as (sym more) (then_laid c.loop-k.invariant.2 laid))
