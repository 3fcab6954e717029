-- Things listed from number i on: one more, none left, how many, and the same ones.
use Prim.Native.Nat.{ℕ, zero, suc, ◌+◌, ◌-◌, ◌<◌, ◌≤◌}
use native.Mathlib.Omega.{arith}
use native.Mathlib.Numerals.{add-one}
use mathlib.Core.Path.{◌≡◌, refl, ap, ◌∙◌}
use mathlib.Core.List.{List, [], ◌∷◌}
use lib.ListN.{length}
use Rattle.field.specs.Listed.{listed}

module _ {A : Type 0} (g : ℕ → A) where
  pub listed_next : {n i : ℕ} → i < n → listed g (n - i) i ≡ g i ∷ listed g (n - (i + 1)) (i + 1)
  unfolding listed
  listed_next {n} {i} h =
      let e : n - i ≡ suc (n - suc i) = omega arith in
      let f : n - suc i ≡ n - (i + 1) = omega arith in
      rw (e, f, add-one)

  pub listed_end : {n i : ℕ} → n ≤ i → listed g (n - i) i ≡ []
  unfolding listed
  listed_end {n} {i} h = let e : n - i ≡ 0 = omega arith in rw e

  pub length_listed : (k i : ℕ) → length (listed g k i) ≡ k
  unfolding listed
  length_listed zero i = refl
  length_listed (suc k) i = ap suc (length_listed k (suc i))

pub listed_same : {A : Type 0} (f g : ℕ → A) (k i : ℕ) → ((j : ℕ) → i ≤ j → j < i + k → f j ≡ g j) → listed f k i ≡ listed g k i
unfolding listed
listed_same f g zero i h = refl
listed_same {A} f g (suc k) i h =
    ap (λ (x : A). x ∷ listed f k (suc i)) (h i (omega arith) (omega arith)) ∙ ap (λ (l : List A). g i ∷ l) (listed_same f g k (suc i) (λ j lo hi. h j (omega arith) (omega arith)))
