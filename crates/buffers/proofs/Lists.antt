-- Laws of each of a list, of sums over one, and of chains.
use Prim.Native.Nat.{ℕ, ◌+◌, ◌*◌, ◌≤◌, ◌<◌}
use mathlib.Core.Path.{◌≡◌, refl, subst}
use mathlib.Core.List.{List, [], ◌∷◌}
use lib.ListN.{length, get_or}
use native.Mathlib.Omega.{arith}
use Rattle.rules.specs.Legal.{Each}
use Rattle.buffers.specs.Chain.{Chain, Among, here, there, sum_l}

pub each_map : (P Q : ℕ → Type 0) (js : List ℕ) → ((j : ℕ) → Among j js → P j → Q j) → Each P js → Each Q js
each_map P Q [] h e = tt
each_map P Q (j ∷ js) h e = (h j here e.0, each_map P Q js (λ i a. h i (there a)) e.1)

pub each_of : (P : ℕ → Type 0) (js : List ℕ) → ((j : ℕ) → Among j js → P j) → Each P js
each_of P [] h = tt
each_of P (j ∷ js) h = (h j here, each_of P js (λ i a. h i (there a)))

pub each_at : (P : ℕ → Type 0) (js : List ℕ) → Each P js → (j : ℕ) → Among j js → P j
each_at P [] e j a = elim a [ ]
each_at P (i ∷ js) e j here = e.0
each_at P (i ∷ js) e j (there a) = each_at P js e.1 j a

pub sum_same : (f g : ℕ → ℕ) (js : List ℕ) → ((j : ℕ) → Among j js → f j ≡ g j) → sum_l f js ≡ sum_l g js
sum_same f g [] h = refl
sum_same f g (j ∷ js) h = omega (arith, h j here, sum_same f g js (λ i a. h i (there a)))

pub sum_least : (f : ℕ → ℕ) (js : List ℕ) (j : ℕ) → Among j js → f j ≤ sum_l f js
sum_least f [] j a = elim a [ ]
sum_least f (i ∷ js) j here = omega arith
sum_least f (i ∷ js) j (there a) = omega (arith, sum_least f js j a)

pub sum_most : (f : ℕ → ℕ) (b : ℕ) (js : List ℕ) → Each (λ j. f j ≤ b) js → sum_l f js ≤ length js * b
sum_most f b [] e = omega arith
sum_most f b (j ∷ js) e = omega (arith, e.0, sum_most f b js e.1)

-- each number is greater than those before it
abbrev pub Rises : List ℕ → Type 0
Rises [] = Unit {0}
Rises (j ∷ js) = Each (λ i. j < i) js × Rises js

pub chain_from : (N : ℕ) (links : List ℕ) (k : ℕ) (js : List ℕ) → Chain N links k js → Each (λ i. k ≤ i) js
chain_from N links k [] c = tt
chain_from N links k (j ∷ js) c = (omega (arith, c.0), each_map (λ i. get_or links j 0 ≤ i) (λ i. k ≤ i) js (λ i a h. omega (arith, c.0, c.2)) (chain_from N links (get_or links j 0) js c.3))

pub chain_rises : (N : ℕ) (links : List ℕ) (k : ℕ) (js : List ℕ) → Chain N links k js → Rises js
chain_rises N links k [] c = tt
chain_rises N links k (j ∷ js) c = (each_map (λ i. get_or links j 0 ≤ i) (λ i. j < i) js (λ i a h. omega (arith, c.2)) (chain_from N links (get_or links j 0) js c.3), chain_rises N links (get_or links j 0) js c.3)

pub chain_low : (N : ℕ) (links : List ℕ) (k : ℕ) (js : List ℕ) → Chain N links k js → Each (λ i. i < N) js
chain_low N links k [] c = tt
chain_low N links k (j ∷ js) c = (c.1, chain_low N links (get_or links j 0) js c.3)

-- a chain says which wires
pub chain_one : (N : ℕ) (links : List ℕ) (k : ℕ) (js is : List ℕ) → Chain N links k js → Chain N links k is → js ≡ is
chain_one N links k [] [] c d = refl
chain_one N links k [] (i ∷ is) c d = absurd (omega (arith, d.0, d.1))
chain_one N links k (j ∷ js) [] c d = absurd (omega (arith, c.0, c.1))
chain_one N links k (j ∷ js) (i ∷ is) c d =
    let e : i ≡ j = omega (arith, c.0, d.0) in
    let q : js ≡ is = chain_one N links (get_or links j 0) js is c.3 (subst (λ (x : ℕ). Chain N links (get_or links x 0) is) e d.3) in
    cc

-- one of them changes
pub sum_set : (f g : ℕ → ℕ) (js : List ℕ) (j : ℕ) → Rises js → Among j js → ((i : ℕ) → (i ≡ j → ⊥) → g i ≡ f i) → sum_l g js + f j ≡ sum_l f js + g j
sum_set f g [] j r a h = elim a [ ]
sum_set f g (i ∷ js) j r here h = omega (arith, sum_same g f js (λ k a. h k (λ e. omega (arith, each_at (λ k. j < k) js r.0 k a))))
sum_set f g (i ∷ js) j r (there a) h = omega (arith, sum_set f g js j r.1 a h, h i (λ e. omega (arith, each_at (λ k. i < k) js r.0 j a)))
