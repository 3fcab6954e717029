-- The loop keeps that the first e loads are made and that the row it reads is as it was.
use Prim.Native.Nat.{◌+◌, ◌*◌}
use Rattle.rows.proofs.Mixing.{Mixing}
use Rattle.rows.proofs.mix.Given as goal

abbrev pub invariant-loop-e : goal.invariant-loop-e
invariant-loop-e l = Mixing l.initial.rows l.rows (l.m * l.m) (l.m * 2) ((l.m + 1) * (l.m + 1)) l.l.least l.l.one l.l.two l.e
