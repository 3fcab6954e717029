-- `load::any_child` meets its contract. The invariant: while none is found, none of the nodes before it is a child.
use Prim.Native.Nat.{◌+◌}
use mathlib.Core.Path.{◌≡◌}
use mathlib.Core.Bool.{false}
use Rattle.load.specs.Next.{NoneFrom}
use Rattle.load.proofs.any_child.Given as goal

abbrev pub invariant-loop-p : goal.invariant-loop-p
invariant-loop-p l = l.found ≡ false → NoneFrom l.parent l.node l.from (l.from + l.p-index)
