-- `nodes_fit` looks at every node: where it answers yes each one fits.
use Rattle.rules.specs.Net.{net_of}
use Rattle.screen.specs.Screened.{Every, node_fits}
use Rattle.screen.proofs.nodes_fit.Given as goal

abbrev pub invariant-loop-i : goal.invariant-loop-i
invariant-loop-i l = Every (node_fits (net_of l.net)) 1 l.i l.fine
