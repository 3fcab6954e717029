-- A sink's state is its pin at its polarity, where that fits the limit.
use native.Mathlib.Omega.{arith}
use mathlib.Core.Path.{sym}
use Rattle.states.proofs.Sinks.{leaf_other, leaf_over, leaf_fits}
use Rattle.tables.proofs.leaf.Goals.{else-d-q-via-then-d-q+else-d-c, else-d-q-via-else-d-q}
use Rattle.tables.proofs.leaf.Goals as goal

pub returns-then-d-c : goal.returns-then-d-c
returns-then-d-c c = sym (leaf_fits _ _ _ _ (omega arith) (omega arith))

pub returns : goal.returns
returns c = elim c.else-d-q.branch [
  | else-d-q-via-then-d-q+else-d-c w ↦ sym (leaf_over _ _ _ _ (omega arith))
  | else-d-q-via-else-d-q w ↦ sym (leaf_other _ _ _ _ (omega arith))
]
