-- `read_net` reads `net_of`: columns that are too short, and columns that are filled.
use native.Mathlib.Omega.{arith}
use mathlib.Core.Path.{ap}
use Rattle.rules.specs.Net.{net, unlimited}
use Rattle.net_file.specs.NetFile.{laid_over}
use Rattle.net_reader.proofs.Reading.{read_few, read_short, read_whole}
use Rattle.net_reader.proofs.read_net.Goals as goal

pub returns-then-room-read : goal.returns-then-room-read
returns-then-room-read c = read_short c.in_ok-read.ensures _ (omega (arith, c.if-room-read.true, c.min-room.ensures))

pub lent-net-requires : goal.lent-net-requires
lent-net-requires c = omega (arith, read_few c.in_ok-read.ensures)

pub returns : goal.returns
returns c =
    let lent = net unlimited c.args.parent.now c.args.wire.now c.args.kind.now c.args.pin.now c.args.polarity.now in
    rw (c.fill.ensures, c.fill-2.ensures, c.fill-3.ensures, c.fill-4.ensures, c.fill-5.ensures)
    (read_whole c.in_ok-read.ensures lent (omega (arith, c.if-room-read.false, c.min-room.ensures)) (ap (laid_over lent 0) c.lent-net.ensures))
