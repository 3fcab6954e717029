-- A wire over its node's two states: the better of both.
use mathlib.Core.Path.{◌∙◌}
use Rattle.states.specs.States.{wire_of}
use Rattle.states.proofs.Cell.over.Goals as goal

pub returns : goal.returns
unfolding wire_of
returns c = c.merge.ensures ∙ rw (c.via-x.ensures, c.via-y.ensures)
