-- Laws of a wire's target, and of the polarity below a wire.
use Prim.Native.Nat.{ℕ, zero, suc, ◌+◌, ◌-◌, ◌%◌, ◌≤◌}
use mathlib.Core.Path.{◌≡◌, refl, subst}
use mathlib.Core.Logic.{◌⊎◌, inl, inr}
use native.Mathlib.Omega.{arith}
use Rattle.frontier.specs.Cell.{inv, Cell, turn}
use Rattle.frontier.specs.Frontier.{State, has, req}
use Rattle.frontier.proofs.Attained.{SAtt}
use Rattle.states.specs.States.{wire_of}
use Rattle.surplus.specs.Choice.{Meets, Aim}
use Rattle.surplus.proofs.Attaining.{wire_met}

-- ---- the target
module _ (τ : Cell) (m a b : ℕ) where
  pub aim_0 : (s : ℕ) → s ≡ 0 → Aim τ s m a b m a 0
  aim_0 zero e = record { which = inl (refl, refl); count = omega arith; turns = omega arith; few = omega arith; plain = λ z. omega arith; topped = λ z. absurd (omega arith) }
  aim_0 (suc s) e = absurd (omega arith)

-- the target can be met
pub aim_met : (τ : Cell) (w s m a b m' l k : ℕ) (x y : State) → wire_of τ inv w x y ≡ has m a b → Aim τ s m a b m' l k → Meets τ w x y m' l
aim_met τ w s m a b m' l k x y e q = go q.which
  where
    att : SAtt (Meets τ w x y) (has m a b)
    att = subst (SAtt (Meets τ w x y)) e (wire_met τ w x y)

    go : ((m' ≡ m) × (l ≡ a)) ⊎ ((m' ≡ suc m) × (l ≡ b)) → Meets τ w x y m' l
    go (inl z) = rw (z.0, z.1) att.0
    go (inr z) = rw (z.0, z.1) att.1

-- ---- a wire's parity
pub turn_same : (τ : Cell) (p w h r k : ℕ) → p ≤ 1 → r ≡ req τ inv 0 (w + h) → k % 2 ≡ 0 → turn inv p (r + k) ≡ p
unfolding req
turn_same τ p w h r k l e g = omega arith

pub turn_other : (τ : Cell) (p w h r k : ℕ) → p ≤ 1 → r ≡ req τ inv 1 (w + h) → k % 2 ≡ 0 → turn inv p (r + k) ≡ 1 - p
unfolding req
turn_other τ p w h r k l e g = omega arith
