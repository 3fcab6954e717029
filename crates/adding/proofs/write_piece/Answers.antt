-- None where the piece takes none, else the first as high as the load below it allows and each next a span further.
use Rattle.std.proofs.Common.{arith, sym}
use mathlib.Core.Path.{◌∙◌}
use Rattle.states.specs.States.{model_of}
use Rattle.adding.proofs.Storing.{none_stored, stored_room, piece_stored}
use Rattle.adding.proofs.write_piece.Goals as goal

pub returns-then-count-eq0 : goal.returns-then-count-eq0
returns-then-count-eq0 c =
    let a = c.args in
    none_stored (model_of a.c) a.c.limit_is a.c.some_span a.w a.walk.at a.walk.load a.i a.walk.to a.wires.now a.offs.now (sym c.takes-count.ensures.0 ∙ omega arith)

pub write_spaced-requires-clause-in_bounds : goal.write_spaced-requires-clause-in_bounds
write_spaced-requires-clause-in_bounds c =
    let a = c.args in
    stored_room (model_of a.c) a.c.limit_is a.c.some_span a.w a.walk.at a.walk.load c.takes-count.result c.takes-count.ensures.0 c.requires.room

pub returns : goal.returns
returns c =
    let a = c.args in
    piece_stored (model_of a.c) a.c.limit_is a.c.some_span a.w a.walk.at a.walk.load a.i a.walk.to c.min.result c.takes-count.result c.min.ensures c.takes-count.ensures.0 c.write_spaced.ensures.0 c.write_spaced.ensures.1
