-- Every load before e is over the limit.
use Prim.Native.Nat.{ℕ, ◌*◌, ◌<◌}
use Rattle.surplus.specs.Rows.{load_at}
use Rattle.rows.proofs.first_fit.Given as goal

abbrev pub invariant-loop-e : goal.invariant-loop-e
invariant-loop-e l = (k : ℕ) → k < l.e → l.limit < load_at l.rows (l.m * l.m) (l.m * 2) k
