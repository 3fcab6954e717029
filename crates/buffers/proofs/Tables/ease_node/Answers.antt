-- A sink's load is its pin; a branch point's is what its wires hand up, where that does not fit once the heaviest are topped.
use Rattle.std.proofs.Common.{arith, sym, subst, get_or}
use Rattle.states.specs.States.{model_of}
use Rattle.buffers.specs.Easing.{Loaded}
use Rattle.buffers.proofs.Settling.{loaded, sink_over, sink_in, node_fits, node_over, node_in}
use Rattle.buffers.proofs.Tables.ease_node.Goals as goal

pub returns-then-c-from : goal.returns-then-c-from
returns-then-c-from c = sink_over c.args.c.limit_is c.args.c.some_span c.if-net-i-eq1.true _ (omega (arith, c.if-c-from.true, c.from.ensures))

pub returns-then-net-i-eq1 : goal.returns-then-net-i-eq1
returns-then-net-i-eq1 c = sink_in c.args.c.limit_is c.args.c.some_span c.if-net-i-eq1.true (omega (arith, c.if-c-from.false, c.from.ensures))

pub returns-then-sum-c : goal.returns-then-sum-c
returns-then-sum-c c = node_fits c.args.c.limit_is c.args.c.some_span c.if-net-i-eq1.false (omega (arith, c.if-sum-c.true, c.from-sum.ensures))

pub relieve-load-requires : goal.relieve-load-requires
relieve-load-requires c =
    let t = c.args.self.now in
    subst (Loaded (model_of c.args.c) t.links t.tops t.on (get_or t.links c.args.i 0)) (sym c.from-sum.ensures) (loaded c.args.c.limit_is c.args.c.some_span c.requires.0 c.requires.1)

pub returns-then-c-load : goal.returns-then-c-load
returns-then-c-load c = node_over c.args.c.limit_is c.args.c.some_span c.if-net-i-eq1.false _ c.relieve-load.result c.relieve-load.ensures.eased c.if-c-load.true

pub returns : goal.returns
returns c = node_in c.args.c.limit_is c.args.c.some_span c.if-net-i-eq1.false _ c.relieve-load.result c.relieve-load.ensures.eased c.relieve-load.ensures.others c.if-c-load.false
