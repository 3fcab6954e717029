-- `join` lays every entry: after i given and j added ones the front of each whole stands in the columns.
use Prim.Native.Nat.{◌-◌, ◌≤◌}
use mathlib.Core.Path.{◌≡◌}
use mathlib.Core.List.{List}
use lib.ListN.{length}
use Rattle.rules.specs.declared.Entry.{Entry}
use Rattle.rules.specs.Load.{entries}
use Rattle.rules.specs.Legal.{start}
use Rattle.rules.specs.Complete.{Joins}
use Rattle.joining.specs.Joined.{Rising, Laying}
use Rattle.joining.proofs.join.Given as goal

abbrev pub invariant-loop-k : goal.invariant-loop-k
invariant-loop-k l =
    let gw = l.given.wires.now in
    let go = l.given.offsets.now in
    let aw = l.added.wires.now in
    let ao = l.added.offsets.now in
    (l.i ≤ length gw)
    × (l.i ≤ l.k)
    × (l.k - l.i ≤ length aw)
    × (length l.wires ≡ length l.initial.wires)
    × (length l.offs ≡ length l.initial.offs)
    × ((whole : List Entry) → Joins (entries gw go) (entries aw ao) whole → Rising start whole → Laying (entries gw go) (entries aw ao) whole l.i (l.k - l.i) l.initial.wires l.initial.offs l.wires l.offs)
