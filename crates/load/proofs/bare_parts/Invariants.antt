-- `load::bare_parts` meets its contract. The invariant: the nodes before i are done.
use Rattle.load.proofs.Parts.{Bare}
use Rattle.load.proofs.bare_parts.Given as goal

abbrev pub invariant-loop-i : goal.invariant-loop-i
invariant-loop-i l = Bare l.on.net.wire.now l.on.net.kind.now l.on.net.pin.now l.own l.shut l.i
