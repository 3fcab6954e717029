-- From the source the walk settles the tree with at most the least count, so what is written is a least placement.
use native.Mathlib.Omega.{arith}
use mathlib.Core.Path.{sym, ap}
use Rattle.std.specs.Prelude.{Ok}
use Rattle.states.proofs.Leaves.{ok_of}
use Rattle.solution.specs.Answer.{placed}
use Rattle.inverted.proofs.Rooting.{some, asks_source, begun, written_least, least_placed}
use Rattle.inverted.proofs.place.Goals as goal

pub surplus-e-requires : goal.surplus-e-requires
surplus-e-requires c =
    let (same, one, sound) = c.requires.sound in
    let (w, cl) = c.requires.wires_joined in
    let (r, m) = c.requires.rooted in
    (r.few, omega arith, some (ok_of c.args.c) sound w cl r)

pub hand_on-requires-clause-asked : goal.hand_on-requires-clause-asked
hand_on-requires-clause-asked c =
    let (same, one, sound) = c.requires.sound in
    let (w, cl) = c.requires.wires_joined in
    let (r, m) = c.requires.rooted in
    λ ne. record { f = _; asks = asks_source (ok_of c.args.c) sound w cl r }

pub descend-requires-clause-by_index : goal.descend-requires-clause-by_index
descend-requires-clause-by_index c =
    let (same, one, sound) = c.requires.sound in
    let (w, cl) = c.requires.wires_joined in
    let (r, m) = c.requires.rooted in
    (_, begun (ok_of c.args.c) sound w cl r _ _ _ _ c.surplus-e.ensures.0 c.hand_on.ensures m)

pub returns : goal.returns
returns c =
    let ok = ok_of c.args.c in
    let (same, one, sound) = c.requires.sound in
    let (w, cl) = c.requires.wires_joined in
    let (r, m) = c.requires.rooted in
    let x = c.descend.ensures _ (begun ok sound w cl r _ _ _ _ c.surplus-e.ensures.0 c.hand_on.ensures m) in
    let y = written_least ok sound same r x in
    let z = least_placed ok sound same r y m in
    placed _ y.0 z.0 z.1 (ap Ok (sym y.1)) x.holds
