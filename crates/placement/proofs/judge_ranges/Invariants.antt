-- `judge_ranges` goes through `judge_each`, one entry a turn.
use Rattle.std.proofs.Common.{length}
use Rattle.rules.proofs.Each.{Going}
use Rattle.placement_file.specs.File.{range_judged}
use Rattle.placement.proofs.judge_ranges.Given as goal

abbrev pub invariant-loop-i : goal.invariant-loop-i
invariant-loop-i l = Going (range_judged l.placement.wires.now l.placement.offsets.now) (length l.placement.wires.now) 0 l.i
