-- A wire over one state: the better of its two candidates.
use Rattle.std.proofs.Common.{refl}
use native.Mathlib.Numerals.{add-one}
use mathlib.Core.Path.{◌∙◌}
use Rattle.frontier.specs.Frontier.{via}
use Rattle.states.proofs.Leaves.{merged}
use Rattle.states.proofs.Cell.via.Goals as goal

pub returns-in_err-s : goal.returns-in_err-s
unfolding via
returns-in_err-s c = rw (c.from_residual.ensures, c.in_err-s.was) refl

pub returns : goal.returns
unfolding via
returns c = c.better.ensures ∙ merged c.cand-x.ensures c.cand-y.ensures ∙ rw (c.in_ok-s.was, add-one)
