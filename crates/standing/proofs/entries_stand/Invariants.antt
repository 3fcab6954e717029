-- `standing::entries_stand` meets its contract. The invariant: what is left of the entries decides the answer.
use mathlib.Core.Path.{◌≡◌}
use lib.ListN.{drop}
use Rattle.rules.specs.Net.{Net}
use Rattle.rules.specs.Load.{entries}
use Rattle.rules.specs.Legal.{start}
use Rattle.rules.specs.Checked.{placed_from}
use Rattle.standing.specs.Stands.{HasWires}
use Rattle.standing.proofs.entries_stand.Given as goal

abbrev pub invariant-loop-k : goal.invariant-loop-k
invariant-loop-k l = (n : Net) → HasWires n l.wire → placed_from n start 0 (entries l.placement.wires.now l.placement.offsets.now) ≡ placed_from n l.before l.k (drop l.k (entries l.placement.wires.now l.placement.offsets.now))
