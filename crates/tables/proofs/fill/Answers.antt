-- The pass from the last node to the first wire, and the source's own state at its end.
use native.Mathlib.Omega.{arith}
use Prim.Native.Nat.{ℕ, suc, ◌-◌}
use mathlib.Core.Path.{◌≡◌, subst}
use mathlib.Core.List.{List}
use Rattle.rules.specs.Net.{Net}
use Rattle.frontier.specs.Cell.{Cell}
use Rattle.surplus.specs.declared.Slot.{Slot}
use Rattle.surplus.specs.declared.Closed.{Closed}
use Rattle.surplus.specs.Tables.{Filled}
use Rattle.tables.proofs.fill.Goals as goal

-- a turn begins with the wires after its own, and the last leaves those from 1 on
filled_at : {τ : Cell} {n : Net} {links : List ℕ} {slots : List Slot} {near : List Closed} {i : ℕ} (j : ℕ) → i ≡ j → Filled τ n links slots near i → Filled τ n links slots near j
filled_at {τ} {n} {links} {slots} {near} j e f = subst (Filled τ n links slots near) e f

pub loop-i-init : goal.loop-i-init
loop-i-init c = (c.requires.sound.1.some, c.requires.filled)

pub push-requires-clause-le_i : goal.push-requires-clause-le_i
push-requires-clause-le_i c = (omega arith, omega arith, filled_at (suc (c.loop-i.i - 1)) (omega arith) c.loop-i.invariant.1)

pub loop-i-preserved : goal.loop-i-preserved
loop-i-preserved c = (omega arith, c.push.ensures)

pub close_node-requires-clause-wires_joined : goal.close_node-requires-clause-wires_joined
close_node-requires-clause-wires_joined c = let d = filled_at 1 (omega arith) c.loop-i.invariant.1 in (d.joined, d.closed)

pub returns : goal.returns
returns c = let d = filled_at 1 (omega arith) c.loop-i.invariant.1 in (d.joined, c.close_node.ensures)
