use native.Mathlib.Omega.{arith}
use mathlib.Core.Path.{refl}
use Rattle.states.proofs.Leaves.{ok_of}
use Rattle.surplus.proofs.Descending.{descent_start, descent_end}
use Rattle.walk.proofs.Stepping.{cuts, fits, asks, step, still_long}
use Rattle.walk.proofs.descend.Goals as goal

pub loop-i-init : goal.loop-i-init
loop-i-init c = λ N b. descent_start _ c.requires.sound.1 b

pub cut_wire-cut-requires-clause-cutting : goal.cut_wire-cut-requires-clause-cutting
cut_wire-cut-requires-clause-cutting c =
    let (one, sound) = c.requires.sound in
    let (w, cl) = c.requires.wires_joined in
    let (N, b) = c.requires.by_index in
    (_, cuts (ok_of c.args.c) one sound w cl (c.loop-i.invariant N b) (omega arith) refl)

pub write_wire-at-requires-clause-in_bounds : goal.write_wire-at-requires-clause-in_bounds
unfolding cuts
write_wire-at-requires-clause-in_bounds c =
    let ok = ok_of c.args.c in
    let (one, sound) = c.requires.sound in
    let (w, cl) = c.requires.wires_joined in
    let (N, b) = c.requires.by_index in
    let d = c.loop-i.invariant N b in
    let f = fits ok one sound w cl d c.loop-i-test.true (c.cut_wire-cut.ensures _ (cuts ok one sound w cl d c.loop-i-test.true refl)) in
    (omega (arith, f, b.in_wires, (still_long d).0), omega (arith, f, b.in_offsets, (still_long d).1))

pub overflow_cast-senses : goal.overflow_cast-senses
unfolding cuts
overflow_cast-senses c =
    let ok = ok_of c.args.c in
    let (one, sound) = c.requires.sound in
    let (w, cl) = c.requires.wires_joined in
    let (N, b) = c.requires.by_index in
    let d = c.loop-i.invariant N b in
    record { fits = omega (arith, (c.cut_wire-cut.ensures _ (cuts ok one sound w cl d c.loop-i-test.true refl)).sense) }

pub hand_on-requires-clause-p_bound : goal.hand_on-requires-clause-p_bound
unfolding cuts
hand_on-requires-clause-p_bound c =
    let ok = ok_of c.args.c in
    let (one, sound) = c.requires.sound in
    let (w, cl) = c.requires.wires_joined in
    let (N, b) = c.requires.by_index in
    let d = c.loop-i.invariant N b in
    ((c.cut_wire-cut.ensures _ (cuts ok one sound w cl d c.loop-i-test.true refl)).sense, omega (arith, sound.few))

pub hand_on-requires-clause-asked : goal.hand_on-requires-clause-asked
unfolding cuts
hand_on-requires-clause-asked c =
    let ok = ok_of c.args.c in
    let (one, sound) = c.requires.sound in
    let (w, cl) = c.requires.wires_joined in
    let (N, b) = c.requires.by_index in
    let d = c.loop-i.invariant N b in
    let z = c.cut_wire-cut.ensures _ (cuts ok one sound w cl d c.loop-i-test.true refl) in
    λ ne. record { f = _; asks = asks ok one sound w cl d c.loop-i-test.true z ne }

pub loop-i-preserved : goal.loop-i-preserved
unfolding cuts
loop-i-preserved c =
    let ok = ok_of c.args.c in
    let (one, sound) = c.requires.sound in
    let (w, cl) = c.requires.wires_joined in
    λ N b.
    let d = c.loop-i.invariant N b in
    let z = c.cut_wire-cut.ensures _ (cuts ok one sound w cl d c.loop-i-test.true refl) in
    step ok one sound w cl d c.loop-i-test.true z c.write_wire-at.ensures.0 c.write_wire-at.ensures.1 c.write_wire-at.ensures.2 _ c.hand_on.ensures

pub returns : goal.returns
returns c = λ N b. let ok = ok_of c.args.c in descent_end _ ok.eq ok.pos b (c.loop-i.invariant N b) c.loop-i-test.false
