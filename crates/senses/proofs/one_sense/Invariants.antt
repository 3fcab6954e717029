-- `senses::one_sense` meets its contract. The invariant: the sinks from i on decide the answer (Senses.antt).
use lib.ListN.{length}
use Rattle.rules.specs.Net.{net_of}
use Rattle.rules.specs.Legal.{sense}
use Rattle.load.specs.Asks.{offsets_at}
use Rattle.senses.proofs.Senses.{Senses}
use Rattle.senses.proofs.one_sense.Given as goal

abbrev pub invariant-loop-i : goal.invariant-loop-i
invariant-loop-i l = Senses (net_of l.on.net) (offsets_at l.on.placement) (sense (net_of l.on.net) (offsets_at l.on.placement) l.lowest) (length l.on.net.kind.now) l.i
