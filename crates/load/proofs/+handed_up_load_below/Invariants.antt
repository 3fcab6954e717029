-- The cycle of calls {handed_up, load_below}: a node sums its child wires, and each of these goes on to its own node (RULES 2.6, 2.7).
-- What falls: 2 · (1,024 - the node), and 1 more where a wire is asked, so that its node comes next. The loop is Scan.antt's, its ends are Spans.antt's, and a wire's part is Parts.antt's.
-- What is asked for is shown of every net whose tables these are; that the numbers fit, of the one that the caller knows of.
use Prim.Native.Nat.{ℕ, ◌+◌, ◌-◌, ◌*◌}
use mathlib.Core.List.{List}
use lib.ListN.{length}
use Rattle.rules.specs.Net.{Net}
use Rattle.load.specs.Asks.{AsksNode}
use Rattle.load.proofs.Scan.{Scan}
use Rattle.load.proofs.+handed_up_load_below.Given as goal

abbrev pub decreases-handed_up : goal.decreases-handed_up
decreases-handed_up l = 2 * (1024 - l.i) + 1

abbrev pub decreases-load_below : goal.decreases-load_below
decreases-load_below l = 2 * (1024 - l.node)

abbrev pub invariant-load_below-loop-after : goal.invariant-load_below-loop-after
invariant-load_below-loop-after l = (n : Net) (offs : ℕ → List ℕ) → AsksNode n offs l.parent l.tables l.node → Scan n offs l.node l.sum l.after

abbrev pub decreases-load_below-loop-after : goal.decreases-load_below-loop-after
decreases-load_below-loop-after l = length l.parent - l.after
