-- Where no wire of a tree has the number of another, every plan is one of offsets by wire number, so the theorem holds of those too.
use Prim.Native.Nat.{ℕ, ◌+◌, ◌≤◌}
use mathlib.Core.Path.{◌≡◌, refl, sym, subst, ◌∙◌}
use mathlib.Core.List.{List, [], ◌++◌, append-nil}
use lib.Dec.{eqb}
use native.Mathlib.Omega.{arith}
use borrow.Author.Tests.{eq-eqb, ne_eqb}
use Rattle.rules.specs.Choose.{pick}
use Rattle.rules.specs.Tree.{Hanging, none, sink, branch}
use Rattle.rules.specs.Sum.{sum_over}
use Rattle.frontier.specs.Cell.{Cell}
use Rattle.frontier.specs.Plan.{Plan, plan_of, count, Settled}
use Rattle.frontier.specs.Frontier.{has, root}
use Rattle.rules.proofs.Counting.{hit, hit_same, Every, every_hit}
use Rattle.frontier.proofs.Best.{Best, optimal}

abbrev pub Distinct : Hanging → Type 0
Distinct f = (j : ℕ) → sum_over (hit j) f ≤ 1

-- the offsets that a plan gives wire j
unfoldable lookup : (f : Hanging) → Plan f → ℕ → List ℕ
lookup none pl j = []
lookup (sink i w c s r) pl j = pick (eqb i j) pl.0 (lookup r pl.1 j)
lookup (branch i w f r) pl j = pick (eqb i j) pl.0 (lookup f pl.1 j ++ lookup r pl.2 j)

missed : (i j x : ℕ) → hit j i + x ≤ 0 → i ≡ j → ⊥
missed i j x h e = omega (arith, hit_same j i e)

lookup_off : (f : Hanging) (pl : Plan f) (j : ℕ) → sum_over (hit j) f ≤ 0 → lookup f pl j ≡ []
unfolding lookup sum_over
lookup_off none pl j h = refl
lookup_off (sink i w c s r) pl j h = rw (ne_eqb i j (missed i j (sum_over (hit j) r) h)) (lookup_off r pl.1 j (omega arith))
lookup_off (branch i w f r) pl j h =
    rw (ne_eqb i j (missed i j (sum_over (hit j) f + sum_over (hit j) r) h), lookup_off f pl.1 j (omega arith)) (lookup_off r pl.2 j (omega arith))

-- two plans are one where their offsets agree on the tree's wires
pub plan_ext : (o o' : ℕ → List ℕ) (f : Hanging) → Every (λ j. o j ≡ o' j) f → plan_of o f ≡ plan_of o' f
plan_ext o o' none h = refl
plan_ext o o' (sink i w c s r) h = cc (h.0, plan_ext o o' r h.1)
plan_ext o o' (branch i w f r) h = cc (h.0, plan_ext o o' f h.1, plan_ext o o' r h.2)

apart : (i j x : ℕ) → hit j i + x ≤ 1 → 1 ≤ x → i ≡ j → ⊥
apart i j x h g e = omega (arith, hit_same j i e)

lookup_plan : (f : Hanging) (pl : Plan f) → Distinct f → plan_of (lookup f pl) f ≡ pl
unfolding lookup sum_over
lookup_plan none pl d = refl
lookup_plan (sink i w c s r) pl d =
    let here : lookup (sink i w c s r) pl i ≡ pl.0 = rw (eq-eqb i i refl) in
    let rest : plan_of (lookup (sink i w c s r) pl) r ≡ pl.1 = plan_ext _ _ r (every_hit _ r (λ j m. rw (ne_eqb i j (apart i j (sum_over (hit j) r) (d j) m))))
    ∙ lookup_plan r pl.1 (λ j. omega (arith, d j)) in
    λ ι. (here ι, rest ι)
lookup_plan (branch i w f r) pl d =
    let here : lookup (branch i w f r) pl i ≡ pl.0 = rw (eq-eqb i i refl) in
    let below : plan_of (lookup (branch i w f r) pl) f ≡ pl.1 = plan_ext _ _ f (every_hit _ f
    (λ j m. rw (ne_eqb i j (apart i j (sum_over (hit j) f + sum_over (hit j) r) (d j) (omega arith)), lookup_off r pl.2 j (omega (arith, d j))) (append-nil (lookup f pl.1 j))))
    ∙ lookup_plan f pl.1 (λ j. omega (arith, d j)) in
    let rest : plan_of (lookup (branch i w f r) pl) r ≡ pl.2 = plan_ext _ _ r (every_hit _ r
    (λ j m. rw (ne_eqb i j (apart i j (sum_over (hit j) f + sum_over (hit j) r) (d j) (omega arith)), lookup_off f pl.1 j (omega (arith, d j)))))
    ∙ lookup_plan r pl.2 (λ j. omega (arith, d j)) in
    λ ι. (here ι, below ι, rest ι)

-- n is the least count of legal offsets
pub record BestOffs (τ : Cell) (f : Hanging) (n : ℕ) : Type 0 where
  pub p : ℕ
  pub offs : ℕ → List ℕ
  pub legal : Settled τ p f (plan_of offs f)
  pub is : count f (plan_of offs f) ≡ n
  pub least : (p' : ℕ) (o : ℕ → List ℕ) → Settled τ p' f (plan_of o f) → n ≤ count f (plan_of o f)

pub optimal_offs : (τ : Cell) → τ.cu ≡ τ.cb + τ.D → 1 ≤ τ.D → (f : Hanging) → Distinct f → (n a b : ℕ) → root τ f ≡ has n a b → BestOffs τ f n
optimal_offs τ eq pos f d n a b e =
    let r : Best τ f n = optimal τ eq pos f n a b e in
    let same : r.plan ≡ plan_of (lookup f r.plan) f = sym (lookup_plan f r.plan d) in
    record {
      p = r.p;
      offs = lookup f r.plan;
      legal = subst (Settled τ r.p f) same r.legal;
      is = subst (λ (pl : Plan f). count f pl ≡ n) same r.is;
      least = λ p o h. r.least p (plan_of o f) h;
    }
