-- A wire over both polarities, the short way.
use mathlib.Core.Path.{◌∙◌}
use Rattle.states.proofs.Leaves.{merged}
use Rattle.states.proofs.Short.{lift_both}
use Rattle.states.proofs.Cell.lift_two.Goals as goal

pub returns : goal.returns
returns c =
    lift_both c.args.self c.args.w (rw c.max.ensures at c.if-self-w.false) c.requires.3 c.requires.4
    (c.better.ensures ∙ merged c.grown.ensures c.turned.ensures) (c.better-2.ensures ∙ merged c.grown-2.ensures c.turned-2.ensures)
