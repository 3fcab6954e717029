-- Node i at both polarities, each by the wires that hang there.
use native.Mathlib.Omega.{arith}
use Rattle.states.proofs.Leaves.{ok_of}
use Rattle.tables.proofs.Turning.{closes, noted}
use Rattle.tables.proofs.close_node.Goals as goal

pub close_side-requires-clause-asked_close : goal.close_side-requires-clause-asked_close
close_side-requires-clause-asked_close c = record { f = _; asks = closes (ok_of c.args.c) c.requires.sound.0 c.requires.wires_joined.0 c.requires.sound.1 c.head-k.ensures 0 (omega arith) }

pub close_side-requires-2-clause-asked_close : goal.close_side-requires-2-clause-asked_close
close_side-requires-2-clause-asked_close c = record { f = _; asks = closes (ok_of c.args.c) c.requires.sound.0 c.requires.wires_joined.0 c.requires.sound.1 c.head-k.ensures 1 (omega arith) }

pub returns : goal.returns
returns c =
    let (sound, h) = c.requires.sound in
    let asks = closes (ok_of c.args.c) sound c.requires.wires_joined.0 h c.head-k.ensures in
    noted (ok_of c.args.c) sound c.requires.wires_joined.0 h c.head-k.ensures _ c.requires.wires_joined.1 c.close_side.result c.close_side-2.result (rw c.node-d.ensures at (c.close_side.ensures _ (asks 0 (omega arith)))) (rw c.node-d.ensures at (c.close_side-2.ensures _ (asks 1 (omega arith)))) (omega arith)
