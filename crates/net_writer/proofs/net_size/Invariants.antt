-- `net_size` counts the bytes of the nodes: what is counted and what is left are the whole.
use lib.ListN.{length}
use Rattle.rules.specs.Net.{net_of, node}
use Rattle.net_writer.proofs.Writing.{Counting}
use Rattle.net_writer.proofs.net_size.Given as goal

abbrev pub invariant-loop-i : goal.invariant-loop-i
invariant-loop-i l = Counting (node (net_of l.net)) (length l.net.parent.now) l.size l.i
