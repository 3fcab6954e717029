-- The judge's refusal is handed on; of a sound net the answer is the inner one's, of either type.
use native.Mathlib.Omega.{arith}
use mathlib.Core.Path.{sym}
use Rattle.std.proofs.lemmas.Result.{err_from_is_err_and}
use Rattle.rules.specs.Net.{net_of}
use Rattle.rules.proofs.SoundSays.{sound_says}
use Rattle.solver.proofs.Answering.{refused, answered}
use Rattle.solver.proofs.solve.Goals as goal

pub returns-in_err-judge : goal.returns-in_err-judge
returns-in_err-judge c = let p = err_from_is_err_and c.from_residual.result c.from_residual.ensures.1 in rw (p.1, p.2) (refused (net_of c.args.net.now) c.args.wires.now c.args.offsets.now (sym c.in_err-judge.ensures))

pub solve-requires : goal.solve-requires
solve-requires c = let sound = sound_says (net_of c.args.net.now) (sym c.in_ok-judge.ensures) in (sound, c.if-net-eq0.true)

pub returns-then-net-eq0 : goal.returns-then-net-eq0
returns-then-net-eq0 c = answered (net_of c.args.net.now) c.args.wires.now c.args.offsets.now (sym c.in_ok-judge.ensures) c.solve.ensures

pub solve-requires-2 : goal.solve-requires-2
solve-requires-2 c = let sound = sound_says (net_of c.args.net.now) (sym c.in_ok-judge.ensures) in (sound, omega (arith, sound.repeater_most))

pub returns : goal.returns
returns c = answered (net_of c.args.net.now) c.args.wires.now c.args.offsets.now (sym c.in_ok-judge.ensures) c.solve-2.ensures
