-- Laws of a wire's candidates: each return of the code is one case, and some try meets a target that can be met.
use Rattle.std.specs.Prelude.{Option, Some, None}
use Prim.Native.Nat.{ℕ, zero, suc, ◌+◌}
use mathlib.Core.Path.{◌≡◌, refl, subst}
use native.Mathlib.Omega.{arith}
use Rattle.frontier.specs.Cell.{Cell}
use Rattle.frontier.specs.Frontier.{State, has}
use Rattle.surplus.specs.Choice.{Met, Meets, even, odd}
use Rattle.cuts.specs.declared.Stand.{Stand}
use Rattle.cuts.specs.Tries.{One, OneOk, PickOk}

-- ---- the two of a node
module _ (τ : Cell) (π w n a b m l : ℕ) (s : State) (e : s ≡ has n a b) where
  un : (x h r : ℕ) → Met τ π w (has n a b) m l x h r → ((r : ℕ) → One τ π (w + a) n m l r → ⊥) → ((r : ℕ) → One τ π (w + b) (n + 1) m l r → ⊥) → ⊥
  un zero h r o f g = let y : One τ π (w + h) n m l r = record { is = o.is; count = omega (arith, o.count, o.under.0); load = o.load } in f r (subst (λ (h : ℕ). One τ π (w + h) n m l r) o.under.1 y)
  un (suc x) h r o f g = let y : One τ π (w + h) (n + 1) m l r = record { is = o.is; count = omega (arith, o.count, o.under.0); load = o.load } in g r (subst (λ (h : ℕ). One τ π (w + h) (n + 1) m l r) o.under.1 y)

  pub choice_first : (o : Stand) → OneOk τ π (w + a) n 0 a m l (Some o) → PickOk τ π w s m l (Some o)
  choice_first o k = rw (k.0, k.1, e) (record { n = n; under = (refl, refl); is = k.2.is; count = k.2.count; load = k.2.load })

  pub choice_second : (o' : Option Stand) → OneOk τ π (w + a) n 0 a m l None → OneOk τ π (w + b) (n + 1) 1 b m l o' → PickOk τ π w s m l o'
  choice_second None k k' = λ x h r y. un x h r (subst (λ (s : State). Met τ π w s m l x h r) e y) k k'
  choice_second (Some o') k k' = rw (k'.0, k'.1, e) (record { n = n + 1; under = (omega arith, refl); is = k'.2.is; count = k'.2.count; load = k'.2.load })

-- ---- the code's two tries
module _ (τ : Cell) (w m l : ℕ) (s t : State) where
  pub try_none : PickOk τ 0 w s m l None → Meets τ w s t m l → PickOk τ 1 w t m l None → ⊥
  try_none p (even x h r y) p' = p x h r y
  try_none p (odd x h r y) p' = p' x h r y
