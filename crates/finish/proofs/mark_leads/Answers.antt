use Rattle.std.proofs.Common.{Some, ◌+◌, sym, subst, set, arith}
use Rattle.rules.specs.declared.Entry.{Entry}
use Rattle.finish.proofs.Leading.{Leading, leading_more, leading_end}
use Rattle.finish.proofs.mark_leads.Goals as goal

pub loop-e-preserved : goal.loop-e-preserved
loop-e-preserved c =
    let l = c.loop-e in
    let kept : Entry → Type 0 = λ x. Leading c.args.given.now.wires.now c.args.given.now.offsets.now c.args.leads.now (set l.leads x.wire (Some x.offset)) (l.e + 1) in
    subst kept (sym c.entry-entry.ensures) (leading_more l.invariant c.requires.same c.loop-e-test.true (c.requires.wires l.e c.loop-e-test.true))

pub returns : goal.returns
returns c = leading_end c.loop-e.invariant (omega arith)
