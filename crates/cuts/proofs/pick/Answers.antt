-- The first of a node's two candidates that meets the target, or none does.
use mathlib.Core.Path.{ap}
use Rattle.states.specs.States.{st}
use Rattle.cuts.proofs.Choosing.{choice_first, choice_second}
use Rattle.cuts.proofs.pick.Goals as goal

pub returns-in-Some : goal.returns-in-Some
returns-in-Some c = choice_first _ _ _ _ _ _ _ _ _ (ap st c.in_ok-s.was) _ c.in-Some.ensures

pub returns : goal.returns
returns c = choice_second _ _ _ _ _ _ _ _ _ (ap st c.in_ok-s.was) _ c.in_default.ensures c.candidate-2.ensures
