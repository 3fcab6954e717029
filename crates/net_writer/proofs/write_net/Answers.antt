-- `write_net` writes `net_bytes`: a net that is refused, a buffer that is too short, and one that is filled.
use native.Mathlib.Omega.{arith}
use mathlib.Core.Path.{sym}
use Rattle.net_writer.proofs.Written.{level, wrote_net}
use Rattle.net_writer.proofs.write_net.Goals as goal

pub net_size-size-requires : goal.net_size-size-requires
net_size-size-requires c = level (sym c.in_ok-judge.ensures)

pub put_fields-requires : goal.put_fields-requires
put_fields-requires c = (level (sym c.in_ok-judge.ensures), omega (arith, c.net_size-size.ensures, c.if-out-size.false))

pub returns : goal.returns
returns c = wrote_net (sym c.in_ok-judge.ensures) c.net_size-size.ensures c.if-out-size.false c.put_fields.ensures
