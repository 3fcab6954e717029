-- The choice over the node's two states, and the surplus that it asks of the node.
use native.Mathlib.Omega.{arith}
use Rattle.states.proofs.Leaves.{ok_of}
use Rattle.walk.proofs.Settling.{is_node, is_small, can_meet, decided_same, decided_other}
use Rattle.walk.proofs.cut_over.Goals.{in-Same, in-Other}
use Rattle.walk.proofs.cut_over.Goals as goal

pub choose-requires-clause-w_le_most_wire : goal.choose-requires-clause-w_le_most_wire
choose-requires-clause-w_le_most_wire c =
    let (n, s, t) = c.requires.by_index in
    (c.requires.wire_bound, is_small (ok_of c.args.c) t t.low c.side-same.ensures, is_small (ok_of c.args.c) t (omega arith) c.side-other.ensures)

pub choose-requires-clause-meets : goal.choose-requires-clause-meets
choose-requires-clause-meets c =
    let (n, s, t) = c.requires.by_index in
    can_meet (ok_of c.args.c) t (is_node (ok_of c.args.c) t t.low c.side-same.ensures) (is_node (ok_of c.args.c) t (omega arith) c.side-other.ensures)

pub returns : goal.returns
returns c = λ n s t. elim c.match-choose.branch [
  | in-Same w ↦ rw w.q-is (decided_same (ok_of c.args.c) t _ _ _ _ (is_node (ok_of c.args.c) t t.low c.side-same.ensures) w.in-Same.ensures (rw w.q-is at c.owed.ensures))
  | in-Other w ↦ rw w.q-is (decided_other (ok_of c.args.c) t _ _ _ _ (is_node (ok_of c.args.c) t (omega arith) c.side-other.ensures) w.in-Other.ensures (rw w.q-is at c.owed.ensures))
]
