-- `Loads::drives` meets its contract: an arm for each next entry of a wire and two for the lowest, above a sink or not (Wire.antt).
use mathlib.Core.Path.{◌≡◌, refl, sym}
use Prim.Native.Nat.{ℕ, ◌<◌}
use mathlib.Core.List.{List}
use native.Mathlib.Omega.{arith}
use lib.ListN.{length, get_or}
use Rattle.rules.specs.Net.{Net, net_of, kind}
use Rattle.rules.specs.Load.{entries, offsets_on}
use Rattle.load.specs.declared.Tables.{Tables}
use Rattle.load.specs.Tables.{TablesOf}
use Rattle.load.specs.Asks.{Placed, AsksNode, offsets_at}
use Rattle.load.proofs.Bound.{load_most}
use Rattle.load.proofs.Scan.{load_sink}
use Rattle.load.proofs.Wire.{wire_within, offset_most, drives_lowest, drives_next, before_lower}
use Rattle.load.proofs.Loads.drives.Goals as goal

-- the lowest entry of a wire above a branch point asks what lies below that point
node_asked : {n : Net} {vs os : List ℕ} {t : Tables} → Placed n vs os → TablesOf n (offsets_on (entries vs os)) t → (k : ℕ) → k < length vs → (kind n (get_or vs k 0) ≡ 1 → ⊥)
    → AsksNode n (offsets_on (entries vs os)) n.parents t (get_or vs k 0)
node_asked p t k h b = record { asks = record { column = refl; tables = t; within = wire_within p k h }; branch = b }

pub overflow_sub-result : goal.overflow_sub-result
overflow_sub-result c = before_lower c.args.self.now.on.placed c.args.k c.requires (rw c.if-stacked.true at c.stacked.ensures)

pub returns-then-stacked : goal.returns-then-stacked
returns-then-stacked c = sym (drives_next c.args.self.now.on.placed c.args.k c.requires (rw c.if-stacked.true at c.stacked.ensures))

pub bounds-net-i : goal.bounds-net-i
bounds-net-i c = omega (arith, wire_within c.args.self.now.on.placed c.args.k c.requires, c.args.self.now.on.placed.sound.kinds_long)

pub returns-then-net-i-eq1 : goal.returns-then-net-i-eq1
returns-then-net-i-eq1 c = omega (arith, drives_lowest c.args.self.now.on.placed c.args.k c.requires (rw c.if-stacked.false at c.stacked.ensures), load_sink (net_of c.args.self.now.on.net) (offsets_at c.args.self.now.on.placement) (get_or c.args.self.now.on.placement.wires.now c.args.k 0) c.if-net-i-eq1.true)

pub load_below-requires : goal.load_below-requires
load_below-requires c = record { net = _; offs = _; asks = node_asked c.args.self.now.on.placed c.args.self.now.told c.args.k c.requires c.if-net-i-eq1.false }

pub overflow_add-result-2 : goal.overflow_add-result-2
overflow_add-result-2 c =
    omega (
      arith,
      offset_most c.args.self.now.on.placed c.args.k c.requires,
      c.load_below.ensures _ _ (node_asked c.args.self.now.on.placed c.args.self.now.told c.args.k c.requires c.if-net-i-eq1.false),
      load_most c.args.self.now.on.placed.sound (offsets_at c.args.self.now.on.placement) _ (wire_within c.args.self.now.on.placed c.args.k c.requires),
    )

pub returns : goal.returns
returns c =
    omega (
      arith,
      c.load_below.ensures _ _ (node_asked c.args.self.now.on.placed c.args.self.now.told c.args.k c.requires c.if-net-i-eq1.false),
      drives_lowest c.args.self.now.on.placed c.args.k c.requires (rw c.if-stacked.false at c.stacked.ensures),
    )
