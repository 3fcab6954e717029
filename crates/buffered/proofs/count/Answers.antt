use Rattle.std.proofs.Common.{arith}
use Rattle.rules.specs.Load.{entries}
use Rattle.adding.proofs.Summing.{counting_end}
use Rattle.buffered.proofs.Alone.{count_next}
use Rattle.buffered.proofs.count.Goals as goal

pub loop-i-preserved : goal.loop-i-preserved
loop-i-preserved c =
    let (r, g) = c.loop-i.invariant in
    (r, count_next r c.args.c.limit_is c.args.c.some_span c.args.c.limit_small c.loop-i-test.true c.at-x.ensures g c.takes.result c.takes.ensures.0)

pub returns : goal.returns
unfolding entries
returns c = counting_end c.loop-i.invariant.0 c.loop-i.invariant.1 (omega arith)
