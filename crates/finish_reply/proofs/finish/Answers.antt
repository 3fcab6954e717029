-- `finish` replies with the added entries and the whole, or with the finisher's refusal.
use native.Mathlib.Omega.{arith}
use Rattle.rules.specs.Net.{net_of}
use Rattle.finish_reply.proofs.Telling.{completing, completed, told, refused}
use Rattle.finish_reply.proofs.finish.Goals as goal

pub tell-requires : goal.tell-requires
tell-requires c =
    let found = completing (net_of c.args.net.now) c.args.given.now.wires.now c.args.given.now.offsets.now _ _ c.in-Ok.count c.in-Ok.is c.finish.ensures in
    (rw (c.lent.ensures.0, c.lent.ensures.1) (completed found), c.requires.0, c.requires.1)

pub returns-in-Ok : goal.returns-in-Ok
returns-in-Ok c =
    let found = completing (net_of c.args.net.now) c.args.given.now.wires.now c.args.given.now.offsets.now _ _ c.in-Ok.count c.in-Ok.is c.finish.ensures in
    told found (rw (c.lent.ensures.0, c.lent.ensures.1) at c.tell.ensures)

-- ---- where none were
pub returns-in-Err : goal.returns-in-Err
returns-in-Err c = refused (net_of c.args.net.now) c.args.given.now.wires.now c.args.given.now.offsets.now _ _ _ _ c.in-Err.why c.in-Err.is (omega arith) (omega arith) c.finish.ensures (c.refuse.ensures _)
