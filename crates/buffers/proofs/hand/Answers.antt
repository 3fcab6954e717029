-- Within the limit the piece as it is, else with a span off for each buffer.
use Rattle.std.proofs.Common.{arith}
use Rattle.states.specs.States.{model_of}
use Rattle.buffers.specs.Going.{lead_from}
use Rattle.buffers.proofs.Leaves.{hand_fits, hand_spent, hand_over}
use Rattle.buffers.proofs.hand.Goals as goal

pub returns-then-v-c : goal.returns-then-v-c
returns-then-v-c c = let a = c.args in (hand_fits (model_of a.c) a.c.limit_is a.c.some_span a.w (lead_from a.lead) a.h c.piece-v.result c.piece-v.ensures.0 c.if-v-c.true, c.if-v-c.true)

pub overflow_mul-result : goal.overflow_mul-result
overflow_mul-result c = let k = c.args.c in omega (arith, hand_spent (model_of k) k.limit_is k.some_span c.piece-v.result c.ceil.result c.ceil.ensures, c.piece-v.ensures.1)

pub overflow_sub-result : goal.overflow_sub-result
overflow_sub-result c = let k = c.args.c in hand_spent (model_of k) k.limit_is k.some_span c.piece-v.result c.ceil.result c.ceil.ensures

pub returns : goal.returns
returns c = let a = c.args in hand_over (model_of a.c) a.c.limit_is a.c.some_span a.w (lead_from a.lead) a.h c.piece-v.result c.ceil.result c.piece-v.ensures.0 c.ceil.ensures
