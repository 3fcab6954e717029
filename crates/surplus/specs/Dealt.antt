-- A surplus dealt out to the wires under a point, each one's part.
use Rattle.std.specs.Prelude.{ℕ, zero, suc, ◌+◌, ◌-◌, ◌≤◌, min}
use Rattle.rules.specs.Tree.{Hanging, none, sink, branch}
use Rattle.frontier.specs.Cell.{Cell}
use Rattle.frontier.specs.Frontier.{State, lost, has, Acc, fail, all, conv, acc}
use Rattle.surplus.specs.Rows.{mixed}
use Rattle.surplus.specs.Wires.{tip}

-- the load of a wire with a surplus of 0, 1, or 2
abbrev pub f3 : ℕ → ℕ → ℕ → ℕ → ℕ
f3 zero a b c = a
f3 (suc zero) a b c = b
f3 (suc (suc n)) a b c = c

-- a wire with the loads a, b and c takes s of the surplus e, and the wires after it, whose loads are g, the rest
pub record Shared (g : ℕ → ℕ) (e a b c s : ℕ) : Type 0 where
  pub few : s ≤ 2
  pub le : s ≤ e
  pub fits : f3 s a b c + g (e - s) ≤ mixed g a b c e

-- a wire worth s takes x of the surplus e, and the wires after it, worth z, have the rest: no more than what they are worth together
abbrev pub Takes : Cell → State → Acc → ℕ → ℕ → Type 0
Takes τ lost z e x = ⊥
Takes τ (has m a b) fail e x = ⊥
Takes τ (has m a b) (all M g) e x = (x ≤ 2) × (x ≤ e) × (f3 x a b (min a τ.cb) + g (e - x) ≤ conv τ a b g e)

-- each wire i takes `part i` of what those before it left of e
abbrev pub Dealt : Cell → (ℕ → ℕ) → ℕ → ℕ → Hanging → Type 0
Dealt τ part p e none = Unit {0}
Dealt τ part p e (sink i w c s r) = Takes τ (tip τ p (sink i w c s r)) (acc τ r p) e (part i) × Dealt τ part p (e - part i) r
Dealt τ part p e (branch i w f r) = Takes τ (tip τ p (branch i w f r)) (acc τ r p) e (part i) × Dealt τ part p (e - part i) r
