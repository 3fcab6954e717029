-- `checker::entries_within_limit` meets its contract. The invariant: what is left of the loads decides the answer.
use mathlib.Core.Path.{◌≡◌}
use lib.ListN.{drop}
use Rattle.rules.specs.Net.{net_of}
use Rattle.rules.specs.Load.{driven}
use Rattle.rules.specs.Checked.{within_limit}
use Rattle.load.specs.Asks.{offsets_at}
use Rattle.checker.proofs.entries_within_limit.Given as goal

abbrev pub invariant-loop-entry : goal.invariant-loop-entry
invariant-loop-entry l =
    within_limit l.loads.on.net.limits.limit 0 (driven (net_of l.loads.on.net) (offsets_at l.loads.on.placement))
    ≡ within_limit l.loads.on.net.limits.limit l.entry (drop l.entry (driven (net_of l.loads.on.net) (offsets_at l.loads.on.placement)))
