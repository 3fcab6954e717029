-- Each wire hangs exactly once: the sum of any g over the tree's wires is the sum of g i over i = 1 .. n.
-- The trees that hang from the nodes before wire i, cut to the wires from i on, together hold each of these once; with i = 1 that is the tree of the source alone.
use Prim.Native.Nat.{ℕ, zero, suc, ◌+◌, ◌-◌, ◌<◌, ◌≤◌}
use mathlib.Core.Path.{◌≡◌, refl}
use native.Mathlib.Omega.{arith}
use native.Mathlib.Decide.{ℕ_discrete}
use borrow.Author.Tests.{eq-eqb, ne_eqb}
use Rattle.rules.specs.Net.{Net, places, parent, kind}
use Rattle.rules.specs.Tree.{hung, hanging, tree}
use Rattle.rules.specs.Sound.{SoundNet}
use Rattle.rules.specs.Sum.{sum_over, sum_from}
use Rattle.rules.proofs.Hanging.{sink_bare}

-- the first k of f
firsts : (ℕ → ℕ) → ℕ → ℕ
firsts f zero = 0
firsts f (suc k) = firsts f k + f k

firsts_zero : (f : ℕ → ℕ) → ((v : ℕ) → f v ≡ 0) → (k : ℕ) → firsts f k ≡ 0
unfolding firsts
firsts_zero f h zero = refl
firsts_zero f h (suc k) = omega (arith, firsts_zero f h k, h k)

module _ {n : Net} (s : SoundNet n) (g : ℕ → ℕ) where
  -- what hangs at v of the last l wires
  at : ℕ → ℕ → ℕ
  at l v = sum_over g (hanging n l v)

  at_none : (v : ℕ) → at 0 v ≡ 0
  unfolding at hanging sum_over
  at_none v = refl

  at_other : (l v : ℕ) → (parent n (places n - suc l) ≡ v → ⊥) → at (suc l) v ≡ at l v
  unfolding at hanging
  at_other l v ne = rw (ne_eqb (parent n (places n - suc l)) v ne)

  over_hung : (i l v : ℕ) → l < places n → sum_over g (hung n i (hanging n l i) (hanging n l v)) ≡ g i + (sum_over g (hanging n l i) + sum_over g (hanging n l v))
  unfolding sum_over
  over_hung i l v h = elim (ℕ_discrete (kind n i) 1) [
    | yes e ↦ rw (eq-eqb (kind n i) 1 e, sink_bare s l i h e) (omega arith)
    | no ne ↦ rw (ne_eqb (kind n i) 1 ne)
  ]

  at_own : (l v : ℕ) → suc l < places n → parent n (places n - suc l) ≡ v → at (suc l) v ≡ g (places n - suc l) + (at l (places n - suc l) + at l v)
  unfolding at hanging
  at_own l v h e = rw (eq-eqb (parent n (places n - suc l)) v e) (over_hung (places n - suc l) l v (omega arith))

  before_own : (l k : ℕ) → k ≤ parent n (places n - suc l) → firsts (at (suc l)) k ≡ firsts (at l) k
  unfolding firsts
  before_own l zero h = refl
  before_own l (suc k) h = omega (arith, before_own l k (omega arith), at_other l k (λ e. omega arith))

  past_own : (l k : ℕ) → suc l < places n → parent n (places n - suc l) < k → firsts (at (suc l)) k ≡ firsts (at l) k + (g (places n - suc l) + at l (places n - suc l))
  unfolding firsts
  past_own l zero h lt = omega arith
  past_own l (suc k) h lt = elim (ℕ_discrete (parent n (places n - suc l)) k) [
    | yes e ↦ omega (arith, before_own l k (omega arith), at_own l k h e)
    | no ne ↦ omega (arith, past_own l k h (omega arith), at_other l k ne)
  ]

  once : (l : ℕ) → l < places n → firsts (at l) (places n - l) ≡ sum_from g l (places n - l)
  unfolding firsts sum_from
  once zero h = firsts_zero (at 0) at_none (places n - 0)
  once (suc l) h =
      let i : ℕ = places n - suc l in
      let e : places n - l ≡ suc i = omega arith in
      omega (arith, past_own l i h (s.lower i (omega arith) (omega arith)), rw e at (once l (omega arith)))

  pub each_wire_once : sum_over g (tree n) ≡ sum_from g (places n - 1) 1
  unfolding at firsts
  each_wire_once =
      let e : places n - (places n - 1) ≡ 1 = omega (arith, s.some) in
      let o : firsts (at (places n - 1)) 1 ≡ sum_from g (places n - 1) 1 = rw e at (once (places n - 1) (omega (arith, s.some))) in
      omega arith
