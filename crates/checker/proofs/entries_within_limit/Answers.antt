use mathlib.Core.Path.{sym, ◌∙◌}
use native.Mathlib.Omega.{arith}
use native.Mathlib.Numerals.{add-one}
use Rattle.load.proofs.Wire.{driven_length}
use Rattle.checker.proofs.Walk.{within_next, within_stop, within_end}
use Rattle.checker.proofs.entries_within_limit.Goals as goal

pub returns-then-most-drives : goal.returns-then-most-drives
returns-then-most-drives c =
    let m = driven_length c.args.loads.now.on.placed in
    sym (c.loop-entry.invariant ∙ within_stop _ _ c.loop-entry.entry (omega (arith, m)) (omega (arith, c.drives.ensures, c.if-most-drives.true)))

pub loop-entry-preserved : goal.loop-entry-preserved
loop-entry-preserved c =
    let m = driven_length c.args.loads.now.on.placed in
    rw add-one (c.loop-entry.invariant ∙ within_next _ _ c.loop-entry.entry (omega (arith, m)) (omega (arith, c.drives.ensures, c.if-most-drives.false)))

pub returns : goal.returns
returns c =
    let m = driven_length c.args.loads.now.on.placed in
    sym (c.loop-entry.invariant ∙ within_end _ _ c.loop-entry.entry (omega (arith, m)))
