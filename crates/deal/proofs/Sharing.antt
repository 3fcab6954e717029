-- A wire's share of a surplus: each return of the code is one case.
use Prim.Native.Nat.{ℕ, zero, suc, ◌+◌, ◌-◌, ◌≤◌, min}
use mathlib.Core.Path.{◌≡◌, refl}
use native.Mathlib.Omega.{arith}
use Rattle.surplus.specs.Dealt.{f3, Shared}

module _ (g : ℕ → ℕ) (a b c : ℕ) where
  three : (e s x y z : ℕ) → s ≤ 2 → x ≡ a + g (suc (suc e)) → y ≡ b + g (suc e) → z ≡ c + g e → f3 s x y z ≡ min x (min y z) → f3 s a b c + g (suc (suc e) - s) ≤ min x (min y z)
  three e zero x y z l i j k q = let p : suc (suc e) - 0 ≡ suc (suc e) = omega arith in rw p (omega arith)
  three e (suc zero) x y z l i j k q = let p : suc (suc e) - 1 ≡ suc e = omega arith in rw p (omega arith)
  three e (suc (suc zero)) x y z l i j k q = let p : suc (suc e) - 2 ≡ e = omega arith in rw p (omega arith)
  three e (suc (suc (suc s))) x y z l i j k q = absurd (omega arith)

  pub share_2 : (e s : ℕ) → (e ≡ 0 → ⊥) → (e ≡ 1 → ⊥) → s ≤ 2 → f3 s (a + g e) (b + g (e - 1)) (c + g (e - 2)) ≡ min (a + g e) (min (b + g (e - 1)) (c + g (e - 2))) → Shared g e a b c s
  share_2 zero s h h' l q = absurd (h refl)
  share_2 (suc zero) s h h' l q = absurd (h' refl)
  share_2 (suc (suc e)) s h h' l q =
      let p : suc (suc e) - 1 ≡ suc e = omega arith in
      let r : suc (suc e) - 2 ≡ e = omega arith in
      record { few = l; le = omega arith; fits = three e s _ _ _ l refl refl refl (rw (p, r) at q) }
