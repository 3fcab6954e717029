-- A surplus of 1: up to the wire that takes it no part is changed.
use Prim.Native.Nat.{◌<◌}
use mathlib.Core.Path.{◌≡◌}
use Rattle.rules.specs.Figures.{most_places}
use Rattle.rules.specs.Tree.{Hanging}
use Rattle.frontier.specs.Cell.{Cell}
use Rattle.surplus.specs.Asks.{Asks, to_end}
use Rattle.surplus.proofs.One.{Way}
use Rattle.deal.proofs.deal_one.Given as goal

abbrev pub invariant-loop-j : goal.invariant-loop-j
invariant-loop-j l = (l.j < most_places) × (l.parts ≡ l.initial.parts) × ((τ : Cell) (f : Hanging) → Asks τ l.chains.links l.chains.slots l.initial.parts l.p l.k f → Way τ l.chains.links l.chains.slots l.initial.parts l.initial.parts l.p 1 f l.j 1)

abbrev pub decreases-loop-j : goal.decreases-loop-j
decreases-loop-j l = to_end l.j
