-- Two runs one after the other are the wire's offsets.
use native.Mathlib.Omega.{arith}
use Prim.Native.Nat.{min}
use mathlib.Core.Path.{ap, ◌∙◌}
use Rattle.states.specs.States.{model_of}
use Rattle.columns.proofs.Spacing.{both_wires}
use Rattle.walk.proofs.Wiring.{both_offsets}
use Rattle.walk.proofs.write_wire.Goals as goal

pub returns : goal.returns
returns c = (omega arith, both_wires c.args.wires.now c.args.at c.args.i c.args.cut.spaced c.args.cut.topped c.write_spaced.ensures.0 c.write_spaced-2.ensures.0, both_offsets (model_of c.args.c) c.args.offsets.now c.args.at c.args.w c.args.cut.below _ c.args.cut.spaced c.args.cut.topped (c.min.ensures ∙ ap (min c.args.w) c.saturating_sub.ensures) c.write_spaced.ensures.1 c.write_spaced-2.ensures.1)
