-- `put_entries` lays one line more.
use native.Mathlib.Omega.{arith}
use mathlib.Core.Path.{sym}
use borrow.Author.Rules.{rules}
use Rattle.answer.proofs.Entries.{one_entry_more}
use Rattle.answer.proofs.Laying.{then_laid, laid_as, line_laid, kept}
use Rattle.answer.proofs.put_entries.Goals as goal

pub loop-k-preserved : goal.loop-k-preserved
loop-k-preserved c =
    let laid = line_laid c.entry_line.ensures c.put_line-next.ensures in
    let more = one_entry_more c.args.placement.now.wires.now c.args.placement.now.offsets.now c.args.loads.now c.loop-k.k c.entry.ensures (search rules) (search rules) (search rules) in
    (omega (arith, laid.ends, c.entry_line.ensures.short), omega (arith, kept laid), laid_as (sym more) (then_laid c.loop-k.invariant.2 laid))
