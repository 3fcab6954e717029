-- The loop keeps that the wires from i on are joined and the nodes from i on have their load.
use Rattle.std.proofs.Common.{◌≤◌}
use Rattle.rules.specs.Net.{net_of}
use Rattle.states.specs.States.{model_of}
use Rattle.buffers.specs.Going.{leads_in, Going}
use Rattle.buffers.proofs.Tables.ascend.Given as goal

abbrev pub invariant-loop-i : goal.invariant-loop-i
invariant-loop-i l = (1 ≤ l.i) × Going (model_of l.c) (net_of l.net) (leads_in l.leads) l.self l.i l.i
