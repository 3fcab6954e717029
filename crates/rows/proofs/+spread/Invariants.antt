-- What falls is how far the chain can go on.
use Rattle.surplus.specs.Asks.{to_end}
use Rattle.rows.proofs.+spread.Given as goal

abbrev pub decreases-spread : goal.decreases-spread
decreases-spread l = to_end l.k
