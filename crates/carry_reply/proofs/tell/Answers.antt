-- `tell` shows the lines and the file of columns that can be written.
use native.Mathlib.Omega.{arith}
use mathlib.Core.Path.{refl}
use Rattle.placement_file.proofs.Listing.{length_entries}
use Rattle.reply.proofs.Showing.{shown}
use Rattle.carry_reply.proofs.tell.Goals as goal

pub write_file-size-requires-clause-few : goal.write_file-size-requires-clause-few
write_file-size-requires-clause-few c = omega (arith, c.requires.fit.few, length_entries c.args.placement.now.wires.now c.args.placement.now.offsets.now c.requires.fit.even)

pub returns : goal.returns
returns c =
    record {
      text = shown c.put_counted-text.ensures.laid (omega (arith, c.put_counted-text.ensures.upper_bound, c.requires.fit.few, c.requires.room.0));
      file = c.write_file-size.ensures;
      status = refl;
    }
