use Rattle.std.proofs.Common.{arith}
use Rattle.adding.proofs.Walking.{next_piece}
use Rattle.adding.proofs.Storing.{room_between, writing_more, wrote_all, wrote_other}
use Rattle.adding.proofs.Half.write_given.Goals as goal

pub write_piece-requires-clause-fits : goal.write_piece-requires-clause-fits
write_piece-requires-clause-fits c =
    let k = c.args.self.now.cell in
    let n = next_piece k.limit_is k.some_span k.limit_small c.requires.begins c.loop-walk.invariant.1.walking c.loop-walk-test.true c.if-self-walk.true in
    (omega (arith, n.0, c.from-o.ensures), omega (arith, n.1, c.requires.begins.size, c.from-o.ensures), c.loop-walk.invariant.1.walking.through.fits)

pub write_piece-requires-clause-room : goal.write_piece-requires-clause-room
write_piece-requires-clause-room c =
    let k = c.args.self.now.cell in
    room_between k.limit_is k.some_span k.limit_small c.requires.begins c.loop-walk.invariant.1 c.loop-walk-test.true c.if-self-walk.true c.from-o.result c.from-o.ensures c.requires.room

pub loop-walk-preserved : goal.loop-walk-preserved
loop-walk-preserved c =
    let k = c.args.self.now.cell in
    (_, writing_more k.limit_is k.some_span k.limit_small c.requires.begins c.loop-walk.invariant.1 c.loop-walk-test.true c.if-self-walk.true c.from-o.result c.write_piece.result c.from-o.ensures c.write_piece.ensures.0 c.write_piece.ensures.1)

pub returns-else-self-walk : goal.returns-else-self-walk
returns-else-self-walk c =
    let k = c.args.self.now.cell in
    wrote_other k.limit_is k.some_span k.limit_small c.requires.begins c.loop-walk.invariant.1 c.loop-walk-test.true c.if-self-walk.false

pub returns-after-loop-walk : goal.returns-after-loop-walk
returns-after-loop-walk c =
    let k = c.args.self.now.cell in
    wrote_all k.limit_is k.some_span k.limit_small c.requires.begins c.loop-walk.invariant.1 (omega arith)
