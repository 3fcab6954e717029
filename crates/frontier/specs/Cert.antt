-- What a solver's tables have to say of each wire for its offsets to settle the tree.
use Rattle.std.specs.Prelude.{ℕ, ◌+◌, ◌≤◌, ◌≡◌, List, length}
use Rattle.rules.specs.Tree.{Hanging, none, sink, branch}
use Rattle.frontier.specs.Cell.{Cell, turn}
use Rattle.frontier.specs.Plan.{GoodW, top_w}

-- of each wire: its offsets, bounds of its count and of what it hands up, and of the count and the load below it
pub record Table : Type 0 where
  pub offs : ℕ → List ℕ
  pub cnt : ℕ → ℕ
  pub top : ℕ → ℕ
  pub n : ℕ → ℕ
  pub b : ℕ → ℕ

-- over the wires of one point
abbrev pub sum : (ℕ → ℕ) → Hanging → ℕ
sum g none = 0
sum g (sink i w c s r) = g i + sum g r
sum g (branch i w f r) = g i + sum g r

-- each wire's offsets are good over what its table says, and the tables add up
abbrev pub Ok : Cell → Table → ℕ → Hanging → Type 0
Ok τ t p none = Unit {0}
Ok τ t p (sink i w c s r) =
    (turn τ.kind p (length (t.offs i)) ≡ s) × GoodW τ w 0 c (t.offs i) × (length (t.offs i) ≤ t.cnt i) × (top_w τ w 0 c (t.offs i) ≤ t.top i) × Ok τ t p r
Ok τ t p (branch i w f r) =
    GoodW τ w 0 (t.b i) (t.offs i) × (t.n i + length (t.offs i) ≤ t.cnt i) × (top_w τ w 0 (t.b i) (t.offs i) ≤ t.top i) × (sum t.cnt f ≤ t.n i) × (sum t.top f ≤ t.b i)
    × Ok τ t (turn τ.kind p (length (t.offs i))) f × Ok τ t p r
