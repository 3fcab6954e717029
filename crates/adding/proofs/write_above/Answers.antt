-- The piece and the top, one run after the other.
use Rattle.std.proofs.Common.{arith}
use Rattle.states.specs.States.{model_of}
use Rattle.adding.proofs.Storing.{stores_long, room_piece, room_top, top_stored, above_stored}
use Rattle.adding.proofs.write_above.Goals as goal

pub write_piece-next-requires-clause-room : goal.write_piece-next-requires-clause-room
write_piece-next-requires-clause-room c = let a = c.args in room_piece (model_of a.c) a.c.limit_is a.c.some_span a.x.size a.x.top a.walk.at a.walk.load c.requires.room

pub write_spaced-requires-clause-in_bounds : goal.write_spaced-requires-clause-in_bounds
write_spaced-requires-clause-in_bounds c =
    let a = c.args in
    room_top (model_of a.c) a.c.limit_is a.c.some_span a.x.size a.x.top a.walk.at a.walk.load c.requires.room c.write_piece-next.result c.write_piece-next.ensures.0 c.write_piece-next.ensures.1

pub overflow_add-result : goal.overflow_add-result
overflow_add-result c =
    let a = c.args in
    let r = room_top (model_of a.c) a.c.limit_is a.c.some_span a.x.size a.x.top a.walk.at a.walk.load c.requires.room c.write_piece-next.result c.write_piece-next.ensures.0 c.write_piece-next.ensures.1 in
    omega (arith, r.0, (stores_long c.write_piece-next.ensures.1).0)

pub returns : goal.returns
returns c =
    let a = c.args in
    above_stored (model_of a.c) a.c.limit_is a.c.some_span a.x.size a.x.top a.walk.at a.walk.load c.write_piece-next.result c.write_piece-next.ensures.0 c.write_piece-next.ensures.1
    (top_stored a.x.size a.x.number c.write_piece-next.result a.x.top c.write_spaced.ensures.0 c.write_spaced.ensures.1)
