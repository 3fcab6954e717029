-- `put_name` takes at most four places a byte.
use Rattle.std.proofs.Common.{◌≡◌, ◌≤◌, ◌*◌, length}
use Rattle.names.proofs.put_name.Given as goal

abbrev pub invariant-loop-b : goal.invariant-loop-b
invariant-loop-b l = (l.at ≤ 4 * l.b-index) × (length l.out ≡ length l.initial.out)
