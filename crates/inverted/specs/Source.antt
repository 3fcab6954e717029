-- What is found at the source: the frontier's root, and the polarity that reaches it.
use Rattle.std.specs.Prelude.{ℕ, zero, suc, ◌*◌, ◌≤◌, ◌≡◌}
use Rattle.rules.specs.Net.{Net}
use Rattle.rules.specs.Tree.{tree}
use Rattle.frontier.specs.Cell.{Cell}
use Rattle.frontier.specs.Frontier.{State, has, merge, acc, close, width}
use Rattle.frontier.specs.Frontier as frontier

-- the first of two at 0, else the second
abbrev pub at_sense : ℕ → State → State → State
at_sense zero a b = a
at_sense (suc p) a b = b

-- the state that p names has the better count
pub record Picks (a b : State) (p : ℕ) : Type 0 where
  pub few : p ≤ 1
  pub is : (N x y : ℕ) → merge a b ≡ has N x y → (h : ℕ) × (h₁ : ℕ) × (at_sense p a b ≡ has N h h₁)

-- the root's count N is reached from the polarity p
pub record Rooted (τ : Cell) (n : Net) (p N : ℕ) : Type 0 where
  pub few : p ≤ 1
  pub load : ℕ
  pub more : ℕ
  pub is : close τ (2 * width (tree n)) (acc τ (tree n) p) ≡ has N load more
  pub a : ℕ
  pub b : ℕ
  pub root : frontier.root τ (tree n) ≡ has N a b
