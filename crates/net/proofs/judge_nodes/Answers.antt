use mathlib.Core.Path.{refl}
use Rattle.std.proofs.lemmas.Result.{err_from_is_err_and}
use native.Mathlib.Omega.{arith}
use Rattle.rules.proofs.Each.{going_stop, going_next, going_end}
use Rattle.net.proofs.Judging.{admit_is, tallied_after, nodes_refused, nodes_sound}
use Rattle.net.proofs.judge_nodes.Goals as goal

pub returns-in_err-admit : goal.returns-in_err-admit
returns-in_err-admit c =
    let p = err_from_is_err_and c.from_residual.result c.from_residual.ensures.1 in
    rw (p.1, p.2) (nodes_refused c.loop-i.counts _ refl (going_stop c.loop-i.invariant.0 (omega arith) _ _ refl (admit_is c.loop-i.invariant.1 c.node-d.ensures c.in_err-admit.ensures)))

pub loop-i-preserved : goal.loop-i-preserved
loop-i-preserved c = (
  going_next c.loop-i.invariant.0 (omega arith) (admit_is c.loop-i.invariant.1 c.node-d.ensures c.in_ok-admit.ensures),
  tallied_after c.loop-i.invariant.1 c.node-d.ensures c.in_ok-admit.ensures refl c.loop-i.auto.i (omega (arith, c.requires.0.few)) c.tally.ensures,
)

pub returns : goal.returns
returns c = nodes_sound c.requires.0 c.loop-i.invariant.1 c.loop-i-test.false (omega (arith, c.requires.0.some, c.loop-i.auto.i-end c.requires.0.some)) (going_end c.loop-i.invariant.0 (omega (arith, c.requires.0.some)))
