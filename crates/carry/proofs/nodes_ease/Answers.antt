use native.Mathlib.Omega.{arith}
use Rattle.carry.proofs.Walk.{easing_next, easing_stop, easing_end}
use Rattle.carry.proofs.nodes_ease.Goals as goal

pub returns-then-not-node_eases : goal.returns-then-not-node_eases
returns-then-not-node_eases c = easing_stop c.loop-i.invariant (omega arith) _ _ c.node.ensures c.node-in-loop-i.ensures _ c.node_eases.ensures c.if-not-node_eases.true

pub loop-i-preserved : goal.loop-i-preserved
loop-i-preserved c = easing_next c.loop-i.invariant (omega arith) _ _ c.node.ensures c.node-in-loop-i.ensures _ c.node_eases.ensures c.if-not-node_eases.false

pub returns : goal.returns
returns c = easing_end c.loop-i.invariant (omega arith) (omega arith)
