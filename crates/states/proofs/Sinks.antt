-- A sink's state, by its polarity and its pin: each case is one difference that is zero or not.
use Prim.Native.Nat.{ℕ, zero, suc, ◌+◌, ◌-◌, ◌≤◌, ◌<◌}
use mathlib.Core.Path.{◌≡◌, refl, sym, ◌∙◌}
use native.Mathlib.Omega.{arith}
use Rattle.frontier.specs.Cell.{Cell}
use Rattle.frontier.specs.Frontier.{State, lost, has, ifz, leaf}

pub ifz_yes : (z : ℕ) (s t : State) → z ≡ 0 → ifz z s t ≡ s
ifz_yes zero s t e = refl
ifz_yes (suc z) s t e = absurd (omega arith)

pub ifz_no : (z : ℕ) (s t : State) → 1 ≤ z → ifz z s t ≡ t
ifz_no zero s t e = absurd (omega arith)
ifz_no (suc z) s t e = refl

module _ (τ : Cell) where
  pub leaf_other : (c s q : ℕ) → (s ≡ q → ⊥) → lost ≡ leaf τ c s q
  unfolding leaf
  leaf_other c s q ne = sym (ifz_no ((q - s) + (s - q)) _ _ (omega arith))

  pub leaf_over : (c s q : ℕ) → τ.cu < c → lost ≡ leaf τ c s q
  unfolding leaf
  leaf_over c s q h = rw (ifz_no (c - τ.cu) (has 0 c c) lost (omega arith)) (same ((q - s) + (s - q)))
    where
      same : (z : ℕ) → lost ≡ ifz z lost lost
      same zero = refl
      same (suc z) = refl

  pub leaf_fits : (c s q : ℕ) → s ≡ q → c ≤ τ.cu → has 0 c c ≡ leaf τ c s q
  unfolding leaf
  leaf_fits c s q e h = sym (ifz_yes ((q - s) + (s - q)) _ _ (omega arith) ∙ ifz_yes (c - τ.cu) _ _ (omega arith))
