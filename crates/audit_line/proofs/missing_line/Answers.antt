-- `missing_line` shows the line of each case.
use native.Mathlib.Omega.{arith}
use mathlib.Core.Path.{◌≡◌}
use Rattle.reply.proofs.Showing.{shown}
use Rattle.audit_line.specs.Lines.{missing_text}
use Rattle.audit_line.proofs.Lines.{missing_fits}
use Rattle.audit_line.proofs.missing_line.Goals as goal
use Rattle.audit_line.proofs.missing_line.Goals.{in-NoNet, in-NetUnreadable, in-NoPlacement, in-PlacementUnreadable}

pub returns : goal.returns
returns c =
    let is : c.match-missing.line.now ≡ missing_text c.args.missing = elim c.match-missing.branch [ in-NoNet w ↦ cc | in-NetUnreadable w ↦ cc | in-NoPlacement w ↦ cc | in-PlacementUnreadable w ↦ cc ] in
    let laid = rw is at c.put.ensures in
    shown laid (omega (arith, laid.ends, missing_fits c.args.missing))
