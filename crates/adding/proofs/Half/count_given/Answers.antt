use Rattle.std.proofs.Common.{arith}
use Rattle.adding.proofs.Walking.{next_piece, walking_more, passed_all, passed_other}
use Rattle.adding.proofs.Half.count_given.Goals as goal

pub overflow_sub-o : goal.overflow_sub-o
overflow_sub-o c =
    let k = c.args.self.now.cell in
    omega (arith, next_piece k.limit_is k.some_span k.limit_small c.requires.0 c.loop-walk.invariant.1 c.loop-walk-test.true c.if-self-walk.true, c.from-o.ensures)

pub takes-requires : goal.takes-requires
takes-requires c =
    let k = c.args.self.now.cell in
    omega (arith, next_piece k.limit_is k.some_span k.limit_small c.requires.0 c.loop-walk.invariant.1 c.loop-walk-test.true c.if-self-walk.true, c.from-o.ensures, c.requires.0.size, c.loop-walk.invariant.1.through.fits, k.limit_small)

pub loop-walk-preserved : goal.loop-walk-preserved
loop-walk-preserved c =
    let k = c.args.self.now.cell in
    (_, walking_more k.limit_is k.some_span k.limit_small c.requires.0 c.loop-walk.invariant.1 c.loop-walk-test.true c.if-self-walk.true c.from-o.result c.takes.result c.from-o.ensures c.takes.ensures.0)

pub returns-else-self-walk : goal.returns-else-self-walk
returns-else-self-walk c =
    let k = c.args.self.now.cell in
    (c.loop-walk.invariant.0, passed_other k.limit_is k.some_span k.limit_small c.requires.0 c.loop-walk.invariant.1 c.loop-walk-test.true c.if-self-walk.false)

pub returns-after-loop-walk : goal.returns-after-loop-walk
returns-after-loop-walk c =
    let k = c.args.self.now.cell in
    (c.loop-walk.invariant.0, passed_all k.limit_is k.some_span k.limit_small c.requires.0 c.loop-walk.invariant.1 (omega arith))
