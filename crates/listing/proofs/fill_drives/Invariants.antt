-- `listing::fill_drives` meets its contract. The invariant: the first k places hold the first k loads, and the others are as they came.
use Rattle.rules.specs.Net.{net_of}
use Rattle.rules.specs.Load.{driven}
use Rattle.load.specs.Asks.{offsets_at}
use Rattle.listing.proofs.Stored.{Stored}
use Rattle.listing.proofs.fill_drives.Given as goal

abbrev pub invariant-loop-k : goal.invariant-loop-k
invariant-loop-k l = Stored (driven (net_of l.loads.on.net) (offsets_at l.loads.on.placement)) l.initial.out l.k l.out
