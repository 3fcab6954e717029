-- The leaf functions' numbers are the model's.
use Prim.Native.Nat.{ℕ, zero, suc, ◌+◌, ◌-◌, ◌*◌, ◌≤◌}
use mathlib.Core.Path.{◌≡◌, refl, sym, subst, ap, ◌∙◌}
use native.Mathlib.Omega.{arith}
use Rattle.frontier.specs.Cell.{Cell}
use Rattle.frontier.specs.Frontier.{ceil, T}
use Rattle.frontier.proofs.Lower.{ceil_least}
use Rattle.relief.specs.Pieces.{piece, bare}
use Rattle.relief.proofs.Pieces.{T-ceil}
use Rattle.relief.proofs.WireLower.{T-whole}

module _ (τ : Cell) (eq : τ.cu ≡ τ.cb + τ.D) (pos : 1 ≤ τ.D) where
  fits_by : (v r : ℕ) → ceil τ v ≡ r → v ≤ τ.cu → v ≡ T τ v r
  fits_by v zero e h = refl
  fits_by v (suc r) e h = absurd (omega (arith, ceil_least τ eq pos v 0 (omega arith)))

  pub bare_fits : (v : ℕ) → v ≤ τ.cu → v ≡ T τ v (ceil τ v)
  bare_fits v h = fits_by v (ceil τ v) refl h

  pub hand_fits : (w lead h p : ℕ) → p ≡ piece τ w lead h → p ≤ τ.cu → p ≡ bare τ w lead h
  hand_fits w lead h p e l = bare_fits p l ∙ ap (λ (v : ℕ). T τ v (ceil τ v)) e

  pub hand_spent : (p r : ℕ) → r ≡ ceil τ p → r * τ.D ≤ p
  hand_spent p r e = subst (λ (r : ℕ). r * τ.D ≤ p) (sym e) (omega (arith, T-whole τ eq pos p))

  pub hand_over : (w lead h p r : ℕ) → p ≡ piece τ w lead h → r ≡ ceil τ p → (p - r * τ.D ≡ bare τ w lead h) × (p - r * τ.D ≤ τ.cu)
  hand_over w lead h p r e q =
      let z : p - r * τ.D ≡ T τ p (ceil τ p) = subst (λ (r : ℕ). p - r * τ.D ≡ T τ p (ceil τ p)) (sym q) (omega (arith, T-whole τ eq pos p)) in
      (z ∙ ap (λ (v : ℕ). T τ v (ceil τ v)) e, omega (arith, T-ceil τ eq pos p))

pub hand_is : (τ : Cell) {w w' lead lead' h h' a : ℕ} → a ≡ bare τ w lead h → w ≡ w' → lead ≡ lead' → h ≡ h' → a ≡ bare τ w' lead' h'
hand_is τ e p q r = e ∙ (λ ι. bare τ (p ι) (q ι) (r ι))
