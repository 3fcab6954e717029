-- The pieces below the given ones and what is above them make the whole wire.
use Rattle.std.proofs.Common.{refl}
use Rattle.adding.proofs.Walking.{low}
use Rattle.adding.proofs.Storing.{room_above, wrote}
use Rattle.adding.proofs.Half.write_wire.Goals as goal

pub write_above-requires : goal.write_above-requires
write_above-requires c =
    let k = c.args.self.now.cell in
    let p = c.write_given-walk.ensures in
    record {
      fits = (low k.limit_is k.some_span p.1.through, c.requires.begins.size, p.1.through.fits);
      room = room_above k.limit_is k.some_span p.1 c.requires.room p.2;
    }

pub returns : goal.returns
returns c =
    let k = c.args.self.now.cell in
    wrote k.limit_is k.some_span c.write_given-walk.ensures.1 c.write_given-walk.ensures.2 c.write_above.ensures.1 c.write_above.ensures.0 refl
