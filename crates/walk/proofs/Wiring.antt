-- A wire's entries: by spacing, and then at its upper end.
use Prim.Native.Nat.{ℕ, ◌+◌, ◌-◌, min}
use mathlib.Core.Path.{◌≡◌, sym, ap, ◌∙◌}
use mathlib.Core.List.{List, ◌++◌}
use lib.Seq.{sets}
use Rattle.frontier.specs.Cell.{Cell}
use Rattle.frontier.specs.Spaced.{steps}
use Rattle.surplus.specs.Choice.{offsets}
use Rattle.columns.proofs.Spacing.{sets_append, steps_length, steps_still}

pub both_offsets : (τ : Cell) (l : List ℕ) (at w h o r k : ℕ) {l₁ l₂ : List ℕ} → o ≡ min w (τ.cu - h) → l₁ ≡ sets l at (steps w τ.D o r) → l₂ ≡ sets l₁ (at + r) (steps w 0 w k) → l₂ ≡ sets l at (offsets τ w h r k)
both_offsets τ l at w h o r k eo e f =
    f ∙ ap (λ (l : List ℕ). sets l (at + r) (steps w 0 w k)) e ∙ ap (λ (n : ℕ). sets (sets l at (steps w τ.D o r)) (at + n) (steps w 0 w k)) (sym (steps_length w τ.D o r))
    ∙ sym (sets_append l at (steps w τ.D o r) (steps w 0 w k)) ∙ ap (λ (x : ℕ). sets l at (steps w τ.D x r ++ steps w 0 w k)) eo
    ∙ ap (λ (os : List ℕ). sets l at (steps w τ.D (min w (τ.cu - h)) r ++ os)) (steps_still w k)
