use Rattle.std.proofs.Common.{arith}
use Rattle.adding.proofs.Summing.{begins, room, written_next, wire_left}
use Rattle.adding.proofs.Half.write_all.Goals as goal

pub at-x-requires : goal.at-x-requires
at-x-requires c =
    let (r, g) = c.loop-to.invariant in
    let left = wire_left r g (omega (arith, c.requires.m_value.0, c.loop-to-test.true)) in
    (omega (arith, r.wires), left)

pub write_wire-walk-requires : goal.write_wire-walk-requires
write_wire-walk-requires c =
    let (r, g) = c.loop-to.invariant in
    let left = wire_left r g (omega (arith, c.requires.m_value.0, c.loop-to-test.true)) in
    record {
      begins = begins r g.lined g.listing.lo left c.at-x.ensures;
      room = room r g left c.at-x.ensures (omega (arith, c.requires.m_value.0, c.requires.m_value.1)) (omega (arith, c.requires.m_value.0, c.requires.m_value.2));
    }

pub loop-to-smaller : goal.loop-to-smaller
loop-to-smaller c = let (r, g) = c.loop-to.invariant in omega (arith, wire_left r g (omega (arith, c.requires.m_value.0, c.loop-to-test.true)))

pub loop-to-preserved : goal.loop-to-preserved
loop-to-preserved c =
    let (r, g) = c.loop-to.invariant in
    (r, written_next r g (wire_left r g (omega (arith, c.requires.m_value.0, c.loop-to-test.true))) c.at-x.ensures c.write_wire-walk.ensures)
