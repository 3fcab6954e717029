use Rattle.std.proofs.Common.{arith}
use Rattle.rules.specs.Load.{entries}
use Rattle.adding.proofs.Summing.{wire_left, written_end}
use Rattle.buffered.proofs.Alone.{size_few, below_fits, write_room, write_next}
use Rattle.buffered.proofs.write.Goals as goal

pub at-x-requires : goal.at-x-requires
unfolding entries
at-x-requires c =
    let (r, g) = c.loop-to.invariant in
    let left = wire_left r g (omega (arith, c.requires.m_value.0, c.loop-to-test.true)) in
    (omega (arith, r.wires), left)

pub write_above-to-requires : goal.write_above-to-requires
unfolding entries
write_above-to-requires c =
    let (r, g) = c.loop-to.invariant in
    let left = wire_left r g (omega (arith, c.requires.m_value.0, c.loop-to-test.true)) in
    rw c.begin.ensures (record {
      fits = (omega arith, size_few r g.listing.lo left c.at-x.ensures, below_fits r g.listing.lo left c.at-x.ensures);
      room = write_room r c.args.c.limit_is c.args.c.some_span c.args.c.limit_small left c.at-x.ensures g (omega (arith, c.requires.m_value.0, c.requires.m_value.1)) (omega (arith, c.requires.m_value.0, c.requires.m_value.2));
    })

pub loop-to-smaller : goal.loop-to-smaller
unfolding entries
loop-to-smaller c = let (r, g) = c.loop-to.invariant in omega (arith, wire_left r g (omega (arith, c.requires.m_value.0, c.loop-to-test.true)))

pub loop-to-preserved : goal.loop-to-preserved
unfolding entries
loop-to-preserved c =
    let (r, g) = c.loop-to.invariant in
    let left = wire_left r g (omega (arith, c.requires.m_value.0, c.loop-to-test.true)) in
    let stored = rw c.begin.ensures at c.write_above-to.ensures in
    (r, write_next r c.args.c.limit_is c.args.c.some_span c.args.c.limit_small left c.at-x.ensures g c.write_above-to.result stored.0 stored.1)

pub returns : goal.returns
unfolding entries
returns c = written_end c.loop-to.invariant.0 c.loop-to.invariant.1 (omega (arith, c.requires.m_value.0))
