-- The wire hands up what the model says, and the tables after it are those of a wire that is joined.
use Rattle.std.proofs.Common.{arith}
use mathlib.Core.Path.{ap}
use Rattle.buffers.specs.Going.{lead_from}
use Rattle.buffers.proofs.Leaves.{hand_is}
use Rattle.buffers.proofs.Pushing.{reads, push}
use Rattle.states.specs.States.{model_of}
use Rattle.buffers.proofs.Tables.push_wire.Goals as goal

pub overflow_add-self : goal.overflow_add-self
overflow_add-self c = let k = c.args.c in omega (arith, (reads k.limit_is k.some_span k.limit_small c.requires).sum, k.limit_small, c.hand-top.ensures.1)

pub returns : goal.returns
returns c =
    let k = c.args.c in
    push k.limit_is k.some_span k.limit_small c.requires c.hand-top.result
    (hand_is (model_of k) c.hand-top.ensures.0 c.from-w.ensures (ap lead_from c.lead_at.ensures) c.from-h.ensures)
