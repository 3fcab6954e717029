-- `judge_fields` tells `net_from`: what is left of the fields decides, each way out is one of its ways to end, and what was judged is laid over our columns.
use Prim.Native.Nat.{◌-◌}
use Rattle.net_file.specs.NetFile.{kept_in}
use Rattle.net_scan.proofs.Judging.{Judging}
use Rattle.net_scan.proofs.Filling.{Filling}
use Rattle.net_scan.proofs.judge_fields.Given as goal

abbrev pub invariant-loop-taken : goal.invariant-loop-taken
invariant-loop-taken l = Judging l.limits l.s l.columns.kind l.counts l.at l.i × Filling l.s 1026 (kept_in l.initial.columns) (kept_in l.columns) l.at l.i

abbrev pub decreases-loop-taken : goal.decreases-loop-taken
decreases-loop-taken l = 1026 - l.i
