-- A surplus of e: each wire takes its part by the row of the wires after it.
use Prim.Native.Nat.{◌<◌}
use Rattle.rules.specs.Figures.{most_places}
use Rattle.rules.specs.Tree.{Hanging}
use Rattle.states.specs.States.{model_of}
use Rattle.surplus.specs.Asks.{AsksMore}
use Rattle.surplus.proofs.More.{WayMore}
use Rattle.deal.proofs.deal_more.Given as goal

abbrev pub invariant-loop-m : goal.invariant-loop-m
invariant-loop-m l = (l.j < most_places) × ((f : Hanging) → AsksMore (model_of l.c) l.rows l.chains.links l.chains.slots l.initial.parts l.p l.k l.n f → WayMore (model_of l.c) l.rows l.chains.links l.chains.slots l.initial.parts l.parts l.p l.e f l.j l.left l.m)
