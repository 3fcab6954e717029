-- A lost state means that there is none; a count is the least; with room for it the placement follows.
use native.Mathlib.Omega.{arith}
use mathlib.Core.Path.{refl, sym, ap, ◌∙◌}
use Rattle.states.specs.States.{st}
use Rattle.states.proofs.Leaves.{ok_of}
use Rattle.solution.specs.Answer.{none, full}
use Rattle.inverted.proofs.Rooting.{head_low, head_count, root_is, rooted, none_there, least_there}
use Rattle.inverted.proofs.decide.Goals as goal

pub side-plus-requires : goal.side-plus-requires
side-plus-requires c =
    let (same, one, sound) = c.requires.sound in
    let (w, cl) = c.requires.wires_joined in
    (omega arith, rw c.head-h.ensures (head_low (ok_of c.args.c) sound w cl), omega arith, rw c.head-h.ensures (head_count (ok_of c.args.c) sound w cl 0 (omega arith)))

pub side-minus-requires : goal.side-minus-requires
side-minus-requires c =
    let (same, one, sound) = c.requires.sound in
    let (w, cl) = c.requires.wires_joined in
    (omega arith, rw c.head-h.ensures (head_low (ok_of c.args.c) sound w cl), omega arith, rw c.head-h.ensures (head_count (ok_of c.args.c) sound w cl 1 (omega arith)))

pub returns-in_default : goal.returns-in_default
returns-in_default c =
    let ok = ok_of c.args.c in
    let (same, one, sound) = c.requires.sound in
    let (w, cl) = c.requires.wires_joined in
    none (none_there ok sound same (root_is ok sound w cl c.head-h.ensures c.side-plus.ensures c.side-minus.ensures (sym c.merge.ensures ∙ ap st c.in_default.is))) refl (record { wires = refl; offsets = refl })

pub returns-then-room-root : goal.returns-then-room-root
returns-then-room-root c =
    let ok = ok_of c.args.c in
    let (same, one, sound) = c.requires.sound in
    let (w, cl) = c.requires.wires_joined in
    full _ (least_there ok sound same _ _ _ (root_is ok sound w cl c.head-h.ensures c.side-plus.ensures c.side-minus.ensures (sym c.merge.ensures ∙ ap st c.in-Some.is))) (omega (arith, c.room.ensures)) refl (record { wires = refl; offsets = refl })

pub place-requires-clause-rooted : goal.place-requires-clause-rooted
place-requires-clause-rooted c =
    let (same, one, sound) = c.requires.sound in
    let (w, cl) = c.requires.wires_joined in
    (rooted (ok_of c.args.c) sound w cl c.head-h.ensures c.side-plus.ensures c.side-minus.ensures c.lighter-p.ensures (sym c.merge.ensures ∙ ap st c.in-Some.is), omega (arith, c.room.ensures))
