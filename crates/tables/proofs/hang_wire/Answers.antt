-- What the wire is worth over its node's two states, hung at plus and then at minus: the wires from it on are joined.
use native.Mathlib.Omega.{arith}
use Rattle.states.proofs.Leaves.{ok_of}
use Rattle.tables.proofs.Turning.{node_low, node_count, in_places, is_node, is_small, is_falling, after_small, still_small, plus_small, minus_small, hung_both}
use Rattle.tables.proofs.hang_wire.Goals as goal

pub side-requires : goal.side-requires
side-requires c = let (n, g) = c.requires.hangs in let ok = ok_of c.args.c in (omega arith, node_low ok g c.head-h.ensures, in_places ok g, node_count ok g c.head-h.ensures 0 (omega arith))

pub side-requires-2 : goal.side-requires-2
side-requires-2 c = let (n, g) = c.requires.hangs in let ok = ok_of c.args.c in (omega arith, node_low ok g c.head-h.ensures, in_places ok g, node_count ok g c.head-h.ensures 1 (omega arith))

pub lift-worth-requires : goal.lift-worth-requires
lift-worth-requires c =
    let (n, g) = c.requires.hangs in
    let ok = ok_of c.args.c in
    let h = c.head-h.ensures in
    (c.requires.wire_bound, is_small ok g h (omega arith) c.side.ensures, is_small ok g h (omega arith) c.side-2.ensures, is_falling ok g h (omega arith) c.side.ensures, is_falling ok g h (omega arith) c.side-2.ensures)

pub hang-requires-clause-small : goal.hang-requires-clause-small
hang-requires-clause-small c =
    let (n, g) = c.requires.hangs in
    let ok = ok_of c.args.c in
    let es = is_node ok g c.head-h.ensures (omega arith) c.side.ensures in
    let et = is_node ok g c.head-h.ensures (omega arith) c.side-2.ensures in
    (plus_small ok g es et c.lift-worth.ensures.plus c.lift-worth.ensures.minus, after_small ok g c.head-k.ensures 0 (omega arith))

pub hang-requires-2-clause-small : goal.hang-requires-2-clause-small
hang-requires-2-clause-small c =
    let (n, g) = c.requires.hangs in
    let ok = ok_of c.args.c in
    let es = is_node ok g c.head-h.ensures (omega arith) c.side.ensures in
    let et = is_node ok g c.head-h.ensures (omega arith) c.side-2.ensures in
    (minus_small ok g es et c.lift-worth.ensures.plus c.lift-worth.ensures.minus, still_small ok g c.head-k.ensures c.hang.ensures.hung)

pub returns-clause-joined : goal.returns-clause-joined
returns-clause-joined c =
    λ n g.
    let ok = ok_of c.args.c in
    let es = is_node ok g c.head-h.ensures (omega arith) c.side.ensures in
    let et = is_node ok g c.head-h.ensures (omega arith) c.side-2.ensures in
    hung_both ok g es et c.lift-worth.ensures.plus c.lift-worth.ensures.minus _ c.head-k.ensures c.hang.ensures.hung c.hang-2.ensures.hung (rw (c.hang-2.ensures.links_kept, c.hang.ensures.links_kept) at c.link.ensures)
