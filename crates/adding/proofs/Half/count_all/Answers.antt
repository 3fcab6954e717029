use Rattle.std.proofs.Common.{arith}
use Rattle.adding.proofs.Summing.{counting_next, counting_end}
use Rattle.adding.proofs.Half.count_all.Goals as goal

pub loop-i-preserved : goal.loop-i-preserved
loop-i-preserved c =
    let k = c.args.self.now.cell in
    let (r, g) = c.loop-i.invariant in
    (r, counting_next r k.limit_is k.some_span k.limit_small g c.loop-i-test.true c.at-x.ensures c.count_given-walk.ensures.1 c.takes.result c.takes.ensures.0)

pub returns : goal.returns
returns c = counting_end c.loop-i.invariant.0 c.loop-i.invariant.1 (omega arith)
