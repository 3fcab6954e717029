-- How often a number is among the wires of a tree, as a sum of hits. In the tree of a sound net each number of a wire is hit exactly once.
use Prim.Native.Nat.{ℕ, zero, suc, ◌+◌, ◌-◌, ◌≤◌, ◌<◌}
use mathlib.Core.Path.{◌≡◌, refl, subst}
use native.Mathlib.Omega.{arith}
use native.Mathlib.Decide.{ℕ_discrete}
use lib.Dec.{eqb}
use borrow.Author.Tests.{eq-eqb, ne_eqb}
use Rattle.rules.specs.Choose.{pick}
use Rattle.rules.specs.Net.{Net, places}
use Rattle.rules.specs.Tree.{Hanging, none, sink, branch, tree}
use Rattle.rules.specs.Sound.{SoundNet}
use Rattle.rules.specs.Sum.{sum_over, sum_from}
use Rattle.rules.proofs.EachWireOnce.{each_wire_once}

unfoldable pub hit : ℕ → ℕ → ℕ
hit j i = pick (eqb i j) 1 0

pub hit_same : (j i : ℕ) → i ≡ j → hit j i ≡ 1
unfolding hit
hit_same j i e = rw (eq-eqb i j e)

pub hit_other : (j i : ℕ) → (i ≡ j → ⊥) → hit j i ≡ 0
unfolding hit
hit_other j i ne = rw (ne_eqb i j ne)

-- ---- among k numbers from i on
hits_before : (j k i : ℕ) → j < i → sum_from (hit j) k i ≡ 0
unfolding sum_from
hits_before j zero i h = refl
hits_before j (suc k) i h = omega (arith, hit_other j i (λ e. omega arith), hits_before j k (suc i) (omega arith))

hits_few : (j k i : ℕ) → sum_from (hit j) k i ≤ 1
unfolding sum_from
hits_few j zero i = omega arith
hits_few j (suc k) i = elim (ℕ_discrete i j) [
  | yes e ↦ omega (arith, hit_same j i e, hits_before j k (suc i) (omega arith))
  | no ne ↦ omega (arith, hit_other j i ne, hits_few j k (suc i))
]

pub hits_one : (j k i : ℕ) → i ≤ j → j < i + k → sum_from (hit j) k i ≡ 1
unfolding sum_from
hits_one j zero i h g = omega arith
hits_one j (suc k) i h g = elim (ℕ_discrete i j) [
  | yes e ↦ omega (arith, hit_same j i e, hits_before j k (suc i) (omega arith))
  | no ne ↦ omega (arith, hit_other j i ne, hits_one j k (suc i) (omega arith) (omega arith))
]

-- ---- among the wires of a tree
-- P of every wire of a tree
abbrev pub Every : (ℕ → Type 0) → Hanging → Type 0
Every P none = Unit {0}
Every P (sink i w c s r) = P i × Every P r
Every P (branch i w f r) = P i × Every P f × Every P r

pub every_at : (P : ℕ → Type 0) (j : ℕ) (f : Hanging) → Every P f → 1 ≤ sum_over (hit j) f → P j
unfolding sum_over
every_at P j none e h = absurd (omega arith)
every_at P j (sink i w c s r) e h = elim (ℕ_discrete i j) [ yes q ↦ subst P q e.0 | no ne ↦ every_at P j r e.1 (omega (arith, hit_other j i ne)) ]
every_at P j (branch i w f r) e h = elim (ℕ_discrete i j) [
  | yes q ↦ subst P q e.0
  | no ne ↦ elim (ℕ_discrete (sum_over (hit j) f) 0) [
    | yes z ↦ every_at P j r e.2 (omega (arith, hit_other j i ne))
    | no nz ↦ every_at P j f e.1 (omega arith)
  ]
]

pub every_hit : (P : ℕ → Type 0) (f : Hanging) → ((j : ℕ) → 1 ≤ sum_over (hit j) f → P j) → Every P f
unfolding sum_over
every_hit P none h = tt
every_hit P (sink i w c s r) h = (h i (omega (arith, hit_same i i refl)), every_hit P r (λ j m. h j (omega arith)))
every_hit P (branch i w f r) h = (h i (omega (arith, hit_same i i refl)), every_hit P f (λ j m. h j (omega arith)), every_hit P r (λ j m. h j (omega arith)))

-- ---- among the wires of a sound net
pub at_most_once : {n : Net} → SoundNet n → (j : ℕ) → sum_over (hit j) (tree n) ≤ 1
at_most_once {n} s j = omega (arith, each_wire_once s (hit j), hits_few j (places n - 1) 1)

pub once : {n : Net} → SoundNet n → (j : ℕ) → 1 ≤ j → j < places n → sum_over (hit j) (tree n) ≡ 1
once {n} s j h g = omega (arith, each_wire_once s (hit j), hits_one j (places n - 1) 1 h (omega arith))
