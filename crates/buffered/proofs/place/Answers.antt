-- The count is the number of the entries, and where there is room for them they are written.
use Rattle.std.proofs.Common.{arith}
use Rattle.buffered.proofs.Answering.{nine, written}
use Rattle.buffered.proofs.place.Goals as goal

pub returns-then-room-m : goal.returns-then-room-m
returns-then-room-m c n g l = nine c.args.wires.now c.args.offsets.now l c.count-m.ensures (omega (arith, c.room.ensures))

pub returns : goal.returns
returns c n g l = written c.args.wires.now c.args.offsets.now g l c.count-m.ensures (omega (arith, c.room.ensures)) c.write.ensures
