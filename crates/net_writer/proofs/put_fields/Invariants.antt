-- `put_fields` writes field by field: the fields that are left, written from here on, make what the buffer is to hold.
use lib.ListN.{length}
use Rattle.rules.specs.Net.{net_of, node}
use Rattle.net_writer.proofs.Writing.{Putting}
use Rattle.net_writer.proofs.put_fields.Given as goal

abbrev pub invariant-loop-i : goal.invariant-loop-i
invariant-loop-i l = Putting (node (net_of l.net)) (length l.net.parent.now) l.initial.out l.out l.at l.i
