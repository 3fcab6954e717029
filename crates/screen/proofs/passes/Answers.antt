use mathlib.Core.Path.{◌≡◌}
use lib.ListN.{length, get_or}
use native.Mathlib.Omega.{arith}
use Rattle.screen.proofs.Tallying.{tallied_start, tallied_next, count_below}
use Rattle.screen.proofs.Passing.{lower_met, passed}
use Rattle.screen.proofs.passes.Goals as goal

pub loop-i-init : goal.loop-i-init
loop-i-init c = tallied_start _

-- the parent is a place of the counts, and its count has room
pub overflow_add-counts : goal.overflow_add-counts
overflow_add-counts c = record { fits = omega (arith, count_below c.loop-i.invariant c.loop-i.auto.i (get_or c.args.net.now.parent.now c.loop-i.i 0)) }

pub loop-i-preserved : goal.loop-i-preserved
loop-i-preserved c = tallied_next c.loop-i.invariant c.loop-i.auto.i (omega (arith, lower_met c.requires c.nodes_fit.ensures c.if-not-nodes_fit.false c.loop-i.i c.loop-i.auto.i c.loop-i-test.true))

pub returns : goal.returns
returns c =
    let e : c.loop-i.i ≡ length c.args.net.now.parent.now = omega (arith, c.requires.some, c.loop-i.auto.i-end c.requires.some) in
    passed c.requires c.nodes_fit.ensures c.if-not-nodes_fit.false (rw e at c.loop-i.invariant) c.counts_fit.ensures
