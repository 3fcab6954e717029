-- `load::cut_parts` meets its contract. The invariant: the tables are right for a placement of the first k entries.
use Rattle.rules.specs.Net.{net_of}
use Rattle.load.specs.Tables.{Parts}
use Rattle.load.proofs.Parts.{offsets_to}
use Rattle.load.proofs.cut_parts.Given as goal

abbrev pub invariant-loop-k : goal.invariant-loop-k
invariant-loop-k l = Parts (net_of l.on.net) (offsets_to l.on.placement.wires.now l.on.placement.offsets.now l.k) l.own l.shut
