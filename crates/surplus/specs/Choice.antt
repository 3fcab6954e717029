-- Which inverters a wire takes to meet what it is asked, and what it is asked for its part of a surplus.
use Rattle.std.specs.Prelude.{ℕ, zero, suc, ◌+◌, ◌-◌, ◌%◌, ◌≤◌, ◌<◌, min, ◌≡◌, ◌⊎◌, List, ◌++◌, replicate}
use Rattle.frontier.specs.Cell.{inv, Cell}
use Rattle.frontier.specs.Frontier.{State, lost, has, Acc, fail, all, T, req}
use Rattle.frontier.specs.Spaced.{steps}
use Rattle.surplus.specs.Dealt.{f3}

-- the node's count n and load h with a surplus of x
abbrev pub Under : State → ℕ → ℕ → ℕ → Type 0
Under lost x n h = ⊥
Under (has m a b) zero n h = (n ≡ m) × (h ≡ a)
Under (has m a b) (suc x) n h = (n ≡ suc m) × (h ≡ b)

-- with r inverters of the parity π a wire of size w over a node's state s meets the count m and the load l; the node has the surplus x and the load h
pub record Met (τ : Cell) (π w : ℕ) (s : State) (m l x h r : ℕ) : Type 0 where
  pub n : ℕ
  pub under : Under s x n h
  pub is : r ≡ req τ inv π (w + h)
  pub count : n + r ≤ m
  pub load : T τ (w + h) r ≤ l

-- over a node's two states, from its own polarity or from the other one
pub data Meets (τ : Cell) (w : ℕ) (same other : State) (m l : ℕ) : Type 0 where
  even : (x h r : ℕ) → Met τ 0 w same m l x h r → Meets τ w same other m l
  odd : (x h r : ℕ) → Met τ 1 w other m l x h r → Meets τ w same other m l

-- what a wire with the least count m and the loads a and b has to meet for a surplus of s: the count m' and the load l, with k more at its upper end
pub record Aim (τ : Cell) (s m a b m' l k : ℕ) : Type 0 where
  pub which : ((m' ≡ m) × (l ≡ a)) ⊎ ((m' ≡ suc m) × (l ≡ b))
  pub count : m' + k ≤ m + s
  pub turns : k % 2 ≡ 0
  pub few : k ≤ 2
  pub plain : k ≡ 0 → l ≤ f3 s a b (min a τ.cb)
  pub topped : 1 ≤ k → τ.cb ≤ f3 s a b (min a τ.cb)

-- a count and a load within what y says of the surplus e are at most n and h
abbrev pub Budgeted : Acc → ℕ → ℕ → ℕ → Type 0
Budgeted fail e n h = ⊥
Budgeted (all m g) e n h = (m + e ≤ n) × (g e ≤ h)

-- the surplus e of a node that keeps (h, h₁, E + 1), where the choice above it takes its load with x more
pub data Owes (x h h₁ E e : ℕ) : Type 0 where
  least : x ≡ 0 → e ≡ E → Owes x h h₁ E e
  lower : 1 ≤ x → h₁ < h → e ≡ suc E → Owes x h h₁ E e
  same : 1 ≤ x → h ≤ h₁ → e ≡ E → Owes x h h₁ E e

-- where a wire's inverters stand: r as far apart as they may be over a load h, and k at the upper end
abbrev pub offsets : Cell → ℕ → ℕ → ℕ → ℕ → List ℕ
offsets τ w h r k = steps w τ.D (min w (τ.cu - h)) r ++ replicate k w
