-- `judge_body` goes through `judge_each`, one entry a turn, and then to the end.
use Rattle.rules.proofs.Each.{Going}
use Rattle.placement_file.specs.File.{entry_judged}
use Rattle.placement_reader.proofs.judge_body.Given as goal

abbrev pub invariant-loop-i : goal.invariant-loop-i
invariant-loop-i l = Going (entry_judged l.s) l.n 0 l.i
