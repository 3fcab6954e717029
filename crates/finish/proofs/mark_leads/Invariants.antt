-- The loop keeps that what is left decides each wire's lead.
use Rattle.finish.proofs.Leading.{Leading}
use Rattle.finish.proofs.mark_leads.Given as goal

abbrev pub invariant-loop-e : goal.invariant-loop-e
invariant-loop-e l = Leading l.given.wires.now l.given.offsets.now l.initial.leads l.leads l.e
