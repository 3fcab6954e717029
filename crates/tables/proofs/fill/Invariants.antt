-- The wires from i on are joined and the nodes from i on closed.
use Prim.Native.Nat.{◌≤◌}
use Rattle.rules.specs.Net.{net_of}
use Rattle.states.specs.States.{model_of}
use Rattle.surplus.specs.Tables.{Filled}
use Rattle.tables.proofs.fill.Given as goal

abbrev pub invariant-loop-i : goal.invariant-loop-i
invariant-loop-i l = (1 ≤ l.i) × Filled (model_of l.c) (net_of l.net) l.tables.chains.links l.tables.chains.slots l.tables.near l.i
