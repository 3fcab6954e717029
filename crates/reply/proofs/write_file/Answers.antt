-- `write_file` shows the file: it is never refused.
use native.Mathlib.Omega.{arith}
use Rattle.reply.proofs.Writing.{wrote_shows, never_refused}
use Rattle.reply.proofs.write_file.Goals as goal

pub unwrap-requires : goal.unwrap-requires
unwrap-requires c = never_refused c.args.given.now.wires.now c.args.given.now.offsets.now _ c.requires.fit c.requires.few (omega arith) c.write_placement.ensures

pub returns : goal.returns
returns c = wrote_shows c.args.given.now.wires.now c.args.given.now.offsets.now _ c.requires.fit c.requires.few (omega arith) c.write_placement.ensures _ c.unwrap.ensures
