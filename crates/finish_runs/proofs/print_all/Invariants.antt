-- `print_all` takes at least a byte a turn.
use Rattle.std.proofs.Common.{length}
use Rattle.finish_runs.proofs.print_all.Given as goal

abbrev pub decreases-loop-rest : goal.decreases-loop-rest
decreases-loop-rest g l = length l.rest
