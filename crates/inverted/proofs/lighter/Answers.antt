-- Where both polarities have a state, by their counts.
use mathlib.Core.Path.{ap}
use Rattle.states.specs.States.{st}
use Rattle.inverted.proofs.Rooting.{picks_by}
use Rattle.inverted.proofs.lighter.Goals as goal

pub returns-in-Some-Some : goal.returns-in-Some-Some
returns-in-Some-Some c = rw c.from.ensures (picks_by _ _ _ _ _ _ _ _ (ap st c.in-Some-Some.is-0) (ap st c.in-Some-Some.is-1))
