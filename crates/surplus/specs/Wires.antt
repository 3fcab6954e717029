-- The wires under a point, taken apart at the first of them, and what each is worth.
use Rattle.std.specs.Prelude.{ℕ, zero, suc, ◌*◌, ◌≤◌, ◌≡◌, ◌⊎◌}
use Rattle.rules.specs.Net.{Net, wire, kind, pin, polarity}
use Rattle.rules.specs.Tree.{Hanging, none, sink, branch, under}
use Rattle.frontier.specs.Cell.{Cell}
use Rattle.frontier.specs.Frontier as frontier
use Rattle.frontier.specs.Frontier.{State, lost, Acc, fail, all, close, leaf, acc, width}

abbrev pub More : Hanging → Type 0
More none = ⊥
More (sink i w c s r) = Unit {0}
More (branch i w f r) = Unit {0}

abbrev pub first : Hanging → ℕ
first none = 0
first (sink i w c s r) = i
first (branch i w f r) = i

abbrev pub rest : Hanging → Hanging
rest none = none
rest (sink i w c s r) = r
rest (branch i w f r) = r

abbrev pub tip : Cell → ℕ → Hanging → State
tip τ p none = lost
tip τ p (sink i w c s r) = frontier.wire τ τ.kind w (leaf τ c s) p
tip τ p (branch i w f r) = frontier.wire τ τ.kind w (λ q. close τ (2 * width f) (acc τ f q)) p

-- the wires stand in rising order, from `lo` on
abbrev pub Ordered : ℕ → Hanging → Type 0
Ordered lo none = Unit {0}
Ordered lo (sink i w c s r) = (lo ≤ i) × Ordered (suc i) r
Ordered lo (branch i w f r) = (lo ≤ i) × Ordered (suc i) r

-- each is one of P
abbrev pub Each : (ℕ → Type 0) → Hanging → Type 0
Each P none = Unit {0}
Each P (sink i w c s r) = P i × Each P r
Each P (branch i w f r) = P i × Each P r

-- wire j is one of these
abbrev pub On : ℕ → Hanging → Type 0
On j none = ⊥
On j (sink i w c s r) = (j ≡ i) ⊎ On j r
On j (branch i w f r) = (j ≡ i) ⊎ On j r

abbrev pub Alive : Acc → Type 0
Alive fail = ⊥
Alive (all m g) = Unit {0}

-- a node's state at the polarity q, by its kind: x is what hangs there
abbrev pub side_of : Cell → ℕ → ℕ → ℕ → ℕ → Acc → ℕ → State
side_of τ zero c s last x q = close τ last x
side_of τ (suc k) c s last x q = leaf τ c s q

-- the state of node i
abbrev pub node_at : Cell → Net → ℕ → ℕ → State
node_at τ n i q = side_of τ (kind n i) (pin n i) (polarity n i) (2 * width (under n i)) (acc τ (under n i) q) q

-- what wire i is worth at its upper end
abbrev pub lift_of : Cell → Net → ℕ → ℕ → State
lift_of τ n i p = frontier.wire τ τ.kind (wire n i) (λ q. side_of τ (kind n i) (pin n i) (polarity n i) (2 * width (under n i)) (acc τ (under n i) q) q) p
