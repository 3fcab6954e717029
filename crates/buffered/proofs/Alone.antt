-- Wire by wire where nothing is given: the walks beside given entries pass none.
use Prim.Native.Nat.{ℕ, ◌+◌, ◌-◌, ◌≤◌, ◌<◌}
use mathlib.Core.Path.{◌≡◌, refl, subst, ap, ◌∙◌}
use mathlib.Core.List.{List, []}
use lib.ListN.{length}
use native.Mathlib.Omega.{arith}
use Rattle.rules.specs.Figures.{most_limit, most_wire}
use Rattle.rules.specs.Load.{entries, offsets_on}
use Rattle.frontier.specs.Cell.{Cell}
use Rattle.frontier.specs.Frontier.{ceil}
use Rattle.relief.specs.Pieces.{added_from}
use Rattle.adding.specs.declared.Wire.{Wire}
use Rattle.adding.specs.Walks.{all_added, Ready, IsWire, Passed, Stores, Room}
use Rattle.adding.proofs.Walking.{walking_start, passed_all}
use Rattle.adding.proofs.Storing.{stores_none, wrote}
use Rattle.adding.proofs.Summing.{Lined, begins, Counting, counting_next, Written, room, written_next}

module _ {τ : Cell} {sizes below on : List ℕ} (ready : Ready τ sizes below on [] []) {i : ℕ} {x : Wire} (lo : 1 ≤ i) (hi : i < length sizes) (is : IsWire sizes below on i x) where
  pub size_few : x.size ≤ most_wire
  size_few = omega (arith, is.size, ready.size i)

  pub below_fits : x.below ≤ τ.cu
  below_fits = omega (arith, is.below, ready.fits i lo hi)

module _ {τ : Cell} {sizes below on : List ℕ} (ready : Ready τ sizes below on [] []) (eq : τ.cu ≡ τ.cb + τ.D) (pos : 1 ≤ τ.D) (small : τ.cu ≤ most_limit) {i to : ℕ} {x : Wire} (hi : i < length sizes) (is : IsWire sizes below on i x) where
  passes : 1 ≤ i → Lined [] [] i 0 → Passed τ [] [] 0 x to (record { next = 0; to = to; at = 0; load = x.below }) []
  passes lo l = let b = begins ready l lo hi is in passed_all eq pos small b (walking_start eq pos small b) (omega arith)

  pub count_next : Counting ready i 0 to → (k : ℕ) → k ≡ ceil τ (x.size + x.below) → Counting ready (i + 1) 0 (to + (k + x.top))
  count_next c k e =
      let z : x.size ≡ x.size - 0 = omega arith in
      let sum : (to + k) + x.top ≡ to + (k + x.top) = omega arith in
      subst (Counting ready (i + 1) 0) sum (counting_next ready eq pos small c hi is (passes c.lo c.lined) k (e ∙ ap (λ (s : ℕ). ceil τ (s + x.below)) z))

  module _ {wires₀ offs₀ wires offs : List ℕ} (g : Written ready wires₀ offs₀ i 0 to wires offs) where
    pub write_room : length (all_added τ sizes below on []) ≤ length wires₀ → length (all_added τ sizes below on []) ≤ length offs₀ → Room (added_from τ x.size x.top 0 x.below []) to wires offs
    unfolding entries offsets_on
    write_room a b = room ready g hi is a b

    pub write_next : {wires' offs' : List ℕ} (k : ℕ) → k ≡ to + length (added_from τ x.size x.top 0 x.below []) → Stores (added_from τ x.size x.top 0 x.below []) x.number to wires offs wires' offs' → Written ready wires₀ offs₀ (i + 1) 0 k wires' offs'
    write_next k e s =
        written_next ready g hi is (wrote eq pos (passes g.listing.lo g.lined) {r = record { next = 0; to = k; at = 0; load = x.below }} (stores_none x.number to wires offs) s e refl)
