-- Whether a sum is odd, by whether its parts are.
use Prim.Native.Nat.{ℕ, ◌+◌, ◌%◌}
use mathlib.Core.Path.{◌≡◌, refl, sym, ◌∙◌}
use mathlib.Core.Bool.{Bool, true, false, not, beq}
use native.Mathlib.Omega.{arith}
use native.Mathlib.Decide.{ℕ_discrete}
use borrow.Author.Tests.{eq-eqb, ne_eqb, eqb-true}
use Rattle.rules.proofs.Tests.{never}
use Rattle.senses.specs.Parity.{is_odd}

pub odd_next : (a : ℕ) → is_odd (a + 1) ≡ not (is_odd a)
odd_next a = elim (ℕ_discrete (a % 2) 1) [
  | yes p ↦ rw (eq-eqb (a % 2) 1 p, ne_eqb ((a + 1) % 2) 1 (λ e. omega arith))
  | no p ↦ rw (ne_eqb (a % 2) 1 p, eq-eqb ((a + 1) % 2) 1 (omega arith))
]

pub odd_sum : (a b : ℕ) → is_odd (a + b) ≡ not (beq (is_odd a) (is_odd b))
odd_sum a b = elim (ℕ_discrete (a % 2) 1) [
  | yes p ↦ elim (ℕ_discrete (b % 2) 1) [
    | yes q ↦ rw (eq-eqb (a % 2) 1 p, eq-eqb (b % 2) 1 q, ne_eqb ((a + b) % 2) 1 (λ e. omega arith))
    | no q ↦ rw (eq-eqb (a % 2) 1 p, ne_eqb (b % 2) 1 q, eq-eqb ((a + b) % 2) 1 (omega arith))
  ]
  | no p ↦ elim (ℕ_discrete (b % 2) 1) [
    | yes q ↦ rw (ne_eqb (a % 2) 1 p, eq-eqb (b % 2) 1 q, eq-eqb ((a + b) % 2) 1 (omega arith))
    | no q ↦ rw (ne_eqb (a % 2) 1 p, ne_eqb (b % 2) 1 q, ne_eqb ((a + b) % 2) 1 (λ e. omega arith))
  ]
]

-- two numbers that are odd alike, and two that are not
alike : (x y : Bool) → not (beq x y) ≡ false → x ≡ y
alike true true e = refl
alike true false e = never e
alike false true e = never e
alike false false e = refl

unlike : (x : Bool) → not (beq x x) ≡ true → ⊥
unlike true e = never (sym e)
unlike false e = never (sym e)

pub odd_same : (a b : ℕ) → not (beq (is_odd a) (is_odd b)) ≡ false → a % 2 ≡ b % 2
odd_same a b h =
    let e : is_odd a ≡ is_odd b = alike _ _ h in
    elim (ℕ_discrete (a % 2) 1) [
      | yes p ↦ p ∙ sym (eqb-true (b % 2) 1 (sym e ∙ eq-eqb (a % 2) 1 p))
      | no p ↦ elim (ℕ_discrete (b % 2) 1) [
        | yes q ↦ never (sym (eq-eqb (b % 2) 1 q) ∙ sym e ∙ ne_eqb (a % 2) 1 p)
        | no q ↦ omega arith
      ]
    ]

pub odd_differ : (a b : ℕ) → not (beq (is_odd a) (is_odd b)) ≡ true → a % 2 ≡ b % 2 → ⊥
odd_differ a b h e = unlike (is_odd b) (rw e at h)
