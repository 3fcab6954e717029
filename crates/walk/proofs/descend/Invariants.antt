-- The loop keeps the walk's invariant, for every count that the walk may have begun with; past the last wire the entries of a plan that settles the tree are written.
use Prim.Native.Nat.{ℕ}
use Rattle.rules.specs.Net.{net_of}
use Rattle.states.specs.States.{model_of}
use Rattle.surplus.specs.Descent.{Begun}
use Rattle.surplus.proofs.Descending.{Descent}
use Rattle.walk.proofs.descend.Given as goal

abbrev pub invariant-loop-i : goal.invariant-loop-i
invariant-loop-i l =
    (N : ℕ) (b : Begun (model_of l.c) (net_of l.net) l.initial.senses l.initial.parts N l.initial.wires l.initial.offsets)
    → Descent (model_of l.c) (net_of l.net) l.initial.senses b.left N l.initial.wires l.initial.offsets l.senses l.parts l.wires l.offsets l.i l.at
