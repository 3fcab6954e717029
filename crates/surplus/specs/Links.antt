-- A node's first wire and a wire's next one, as the way up leaves them: the chain of the node's wires.
use Rattle.std.specs.Prelude.{ℕ, suc, ◌-◌, ◌≤◌, ◌<◌, max, ◌≡◌}
use Rattle.rules.specs.Net.{Net, places, parent}
use Rattle.rules.specs.Tree.{Hanging, none, sink, branch, hanging}
use Rattle.frontier.specs.Cell.{Cell}
use Rattle.surplus.specs.Wires.{tip}
use Rattle.surplus.specs.Pairs.{Kept}

-- k is the first wire from i on under v, or 0 where there is none
pub record First (n : Net) (i v k : ℕ) : Type 0 where
  pub low : k < places n
  pub not : k ≡ 0 → hanging n (places n - i) v ≡ none
  pub from : 1 ≤ k → i ≤ k
  pub ours : 1 ≤ k → parent n k ≡ v
  pub same : 1 ≤ k → hanging n (places n - i) v ≡ hanging n (places n - k) v

-- the wires from i on are linked
pub record Links (n : Net) (next head : ℕ → ℕ) (i : ℕ) : Type 0 where
  pub heads : (v : ℕ) → v < places n → First n (max i (suc v)) v (head v)
  pub nexts : (j : ℕ) → i ≤ j → j < places n → First n (suc j) (parent n j) (next j)

-- from k on, each wire's loads are lo and hi and the next one is `next`; 0 ends it
abbrev pub Chain : Cell → (ℕ → ℕ) → (ℕ → ℕ) → (ℕ → ℕ) → ℕ → ℕ → Hanging → Type 0
Chain τ next lo hi p k none = k ≡ 0
Chain τ next lo hi p k (sink i w c s r) = (k ≡ i) × (1 ≤ i) × Kept (tip τ p (sink i w c s r)) (lo i) (hi i) × Chain τ next lo hi p (next i) r
Chain τ next lo hi p k (branch i w f r) = (k ≡ i) × (1 ≤ i) × Kept (tip τ p (branch i w f r)) (lo i) (hi i) × Chain τ next lo hi p (next i) r
