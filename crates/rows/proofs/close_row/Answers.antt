-- A node's state off its row: the first fitting surplus, and the loads there and one further.
use native.Mathlib.Omega.{arith}
use Prim.Native.Nat.{suc, ◌+◌}
use mathlib.Core.Path.{◌≡◌}
use Rattle.surplus.proofs.Spreading.{near_row, near_row_none}
use Rattle.rows.proofs.close_row.Goals as goal

pub returns-in_default : goal.returns-in_default
returns-in_default c = λ z r. near_row_none _ _ _ _ _ 0 0 z r c.in_default.ensures (omega arith)

pub returns : goal.returns
returns c =
    λ z r.
    let e : c.in-Some.e + 1 ≡ suc c.in-Some.e = omega arith in
    rw (c.min-more.ensures, c.load_at-load.ensures, c.load_at.ensures, e) (near_row _ _ _ _ _ z r c.in-Some.ensures.1 c.in-Some.ensures.0)
