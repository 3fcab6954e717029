-- What the walk down knows of each wire, and of the wires that are left.
use Rattle.std.specs.Prelude.{ℕ, zero, suc, ◌+◌, ◌-◌, ◌≤◌, ◌≡◌, length}
use Rattle.rules.specs.Net.{Net, places, parent, wire, pin, polarity}
use Rattle.rules.specs.Tree.{hanging, under}
use Rattle.frontier.specs.Cell.{Cell, turn}
use Rattle.frontier.specs.Plan.{GoodW, top_w}
use Rattle.frontier.specs.Frontier.{has, Acc, fail, all, acc}
use Rattle.frontier.specs.Cert.{Table}
use Rattle.surplus.specs.Wires.{lift_of}

-- the count c and the load l are within what x says of the surplus e
abbrev pub Within : Acc → ℕ → ℕ → ℕ → Type 0
Within fail c l e = ⊥
Within (all m g) c l e = (c ≤ m + e) × (l ≤ g e)

-- what the walk knows of wire i under a point of polarity p, where its node has the polarity q and the surplus e
abbrev pub WireOk : Cell → Net → Table → ℕ → ℕ → ℕ → ℕ → ℕ → Type 0
WireOk τ n t p i q e zero =
    GoodW τ (wire n i) 0 (t.b i) (t.offs i) × (t.n i + length (t.offs i) ≤ t.cnt i) × (top_w τ (wire n i) 0 (t.b i) (t.offs i) ≤ t.top i) × (turn τ.kind p (length (t.offs i)) ≡ q)
    × ((c l : ℕ) → Within (acc τ (under n i) q) c l e → (c ≤ t.n i) × (l ≤ t.b i))
WireOk τ n t p i q e (suc k) =
    (turn τ.kind p (length (t.offs i)) ≡ polarity n i) × GoodW τ (wire n i) 0 (pin n i) (t.offs i) × (length (t.offs i) ≤ t.cnt i) × (top_w τ (wire n i) 0 (pin n i) (t.offs i) ≤ t.top i)

-- what wire i is worth at the polarity p, and the wires after it under its parent
pub record Parts (τ : Cell) (n : Net) (p i : ℕ) : Type 0 where
  pub m : ℕ
  pub a : ℕ
  pub b : ℕ
  pub M : ℕ
  pub g : ℕ → ℕ
  pub lifted : lift_of τ n i p ≡ has m a b
  pub rest : acc τ (hanging n (places n - suc i) (parent n i)) p ≡ all M g
