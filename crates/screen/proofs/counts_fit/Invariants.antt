-- `counts_fit` looks at every count: where it answers yes each one fits its node's kind.
use lib.ListN.{get_or}
use Rattle.screen.specs.Screened.{Every, count_fits}
use Rattle.screen.proofs.counts_fit.Given as goal

abbrev pub invariant-loop-v : goal.invariant-loop-v
invariant-loop-v l = Every (λ j. count_fits (get_or l.kinds j 0) (get_or l.counts j 0)) 0 l.v l.fine
