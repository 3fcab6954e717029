-- What a slot keeps of the wires under a point instead of a row: one more than their count, and their least loads with a surplus of 0 and of 1.
-- And what is kept of a node: its two loads and one more than the surplus that it takes.
use Rattle.std.specs.Prelude.{ℕ, zero, suc, ◌+◌, ◌≤◌, ◌<◌, min, ◌≡◌}
use Rattle.frontier.specs.Cell.{Cell}
use Rattle.frontier.specs.Frontier.{State, lost, has, Acc, fail, all}

-- the slot (c, x, y) is of the wires of which z says what they are worth; c is 0 where some wire has none
abbrev pub PairOf : ℕ → ℕ → ℕ → Acc → Type 0
PairOf c x y fail = c ≡ 0
PairOf c x y (all m g) = (c ≡ suc m) × (x ≡ g 0) × (y ≡ g 1)

-- E is the least surplus at which the load fits
pub record Fits (τ : Cell) (g : ℕ → ℕ) (E : ℕ) : Type 0 where
  pub over : (k : ℕ) → k < E → τ.cu < g k
  pub fits : g E ≤ τ.cu

-- (h, h₁, o) is kept of a node whose wires are worth z, each surplus up to `last` being tried: o is one more than the least fitting surplus
abbrev pub NearOf : Cell → ℕ → Acc → ℕ → ℕ → ℕ → Type 0
NearOf τ last fail h h₁ o = o ≡ 0
NearOf τ last (all m g) h h₁ zero = (k : ℕ) → k ≤ last → τ.cu < g k
NearOf τ last (all m g) h h₁ (suc E) = (E ≤ last) × Fits τ g E × (h ≡ g E) × (h₁ ≡ min (g E) (g (suc E)))

-- the state that they are, over the slot's count c
abbrev pub near_state : ℕ → ℕ → ℕ → ℕ → State
near_state zero h h₁ o = lost
near_state (suc m) h h₁ zero = lost
near_state (suc m) h h₁ (suc E) = has (m + E) h h₁

-- what is kept of a wire are its two loads
abbrev pub Kept : State → ℕ → ℕ → Type 0
Kept lost x y = Unit {0}
Kept (has m a b) x y = (x ≡ a) × (y ≡ b)
