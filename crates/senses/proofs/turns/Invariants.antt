-- `senses::turns` meets its contract. The invariant: below i the table is right, and from i on it still holds the inverters on each wire (Inverters.antt).
use Rattle.rules.specs.Net.{net_of}
use Rattle.load.specs.Asks.{offsets_at}
use Rattle.senses.specs.Parity.{Counted, Turned}
use Rattle.senses.proofs.turns.Given as goal

abbrev pub invariant-loop-i : goal.invariant-loop-i
invariant-loop-i l = Counted (offsets_at l.on.placement) l.i l.odd × Turned (net_of l.on.net) (offsets_at l.on.placement) l.i l.odd
