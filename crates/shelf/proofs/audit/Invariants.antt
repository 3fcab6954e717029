-- `audit` counts each record, and ends.
use Rattle.std.proofs.Common.{◌-◌}
use Rattle.tally.specs.Tallied.{Sums}
use Rattle.shelf.proofs.audit.Given as goal

abbrev pub invariant-loop-tally : goal.invariant-loop-tally
invariant-loop-tally g l = Sums l.tally

abbrev pub decreases-loop-tally : goal.decreases-loop-tally
decreases-loop-tally g l = 4294967296 - l.tally.records
