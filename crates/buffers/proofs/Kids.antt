-- The wires under a node, as a list: which they are, and what the tree's statements about them say of the list.
use Prim.Native.Nat.{ℕ, zero, suc, ◌-◌, ◌≤◌, ◌<◌}
use mathlib.Core.Path.{◌≡◌, refl, sym, subst, ap, ◌∙◌}
use mathlib.Core.List.{List, [], ◌∷◌}
use lib.ListN.{length}
use native.Mathlib.Omega.{arith}
use native.Mathlib.Decide.{ℕ_discrete}
use borrow.Author.Tests.{eq-eqb, ne_eqb}
use Rattle.rules.specs.Net.{Net, places, parent, kind}
use Rattle.rules.specs.Tree.{Hanging, none, sink, branch, hung, hanging}
use Rattle.rules.specs.Legal.{Each}
use Rattle.rules.proofs.Hanging.{hanging_skip, hanging_take, hanging_end}
use Rattle.frontier.specs.Cell.{Cell}
use Rattle.frontier.specs.Cert.{sum}
use Rattle.relief.specs.Pieces.{topped}
use Rattle.relief.specs.Marks.{Divides, Relieved}
use Rattle.relief.specs.Marks as marks
use Rattle.buffers.specs.Chain.{wires_of, sum_l, Among, here, there}
use Rattle.buffers.specs.Going.{kids}
use Rattle.buffers.proofs.Lists.{each_map, sum_same}

-- ---- which they are
hung_wires : (n : Net) (i : ℕ) (f r : Hanging) → wires_of (hung n i f r) ≡ i ∷ wires_of r
hung_wires n i f r = elim (ℕ_discrete (kind n i) 1) [ yes k ↦ rw (eq-eqb (kind n i) 1 k) | no ne ↦ rw (ne_eqb (kind n i) 1 ne) ]

pub kids_take : (n : Net) (i v : ℕ) → i < places n → parent n i ≡ v → kids n i v ≡ i ∷ kids n (suc i) v
kids_take n i v h e = ap wires_of (hanging_take n i v h e) ∙ hung_wires n i (hanging n (places n - suc i) i) (hanging n (places n - suc i) v)

pub kids_skip : (n : Net) (i v : ℕ) → i < places n → (parent n i ≡ v → ⊥) → kids n i v ≡ kids n (suc i) v
kids_skip n i v h ne = ap wires_of (hanging_skip n i v h ne)

pub kids_end : (n : Net) (v : ℕ) → kids n (places n) v ≡ []
kids_end n v = ap wires_of (hanging_end n (places n) v (omega arith))

pub record Kid (n : Net) (b v j : ℕ) : Type 0 where
  pub up : parent n j ≡ v
  pub from : b ≤ j
  pub within : j < places n

kid_on : {n : Net} {b v j : ℕ} (l : ℕ) → l ≤ b → Kid n b v j → Kid n l v j
kid_on l h k = record { up = k.up; from = omega (arith, k.from); within = k.within }

kid_first : {n : Net} {v j : ℕ} (i : ℕ) (js : List ℕ) → i < places n → parent n i ≡ v → (Among j js → Kid n i v j) → Among j (i ∷ js) → Kid n i v j
kid_first i js h e f here = record { up = e; from = omega arith; within = h }
kid_first i js h e f (there b) = f b

kids_by : (n : Net) (v l : ℕ) → l ≤ places n → (j : ℕ) → Among j (wires_of (hanging n l v)) → Kid n (places n - l) v j
unfolding hanging
kids_by n v zero h j a = elim a [ ]
kids_by n v (suc l) h j a = elim (ℕ_discrete (parent n (places n - suc l)) v) [
  | yes e ↦ kid_first (places n - suc l) (wires_of (hanging n l v)) (omega arith) e (λ b. kid_on (places n - suc l) (omega arith) (kids_by n v l (omega arith) j b))
      (subst (λ (x : List ℕ). Among j x) (hung_wires n (places n - suc l) (hanging n l (places n - suc l)) (hanging n l v)) (rw (eq-eqb (parent n (places n - suc l)) v e) at a))
  | no ne ↦ kid_on (places n - suc l) (omega arith) (kids_by n v l (omega arith) j (rw (ne_eqb (parent n (places n - suc l)) v ne) at a))
]

pub kids_are : (n : Net) (b v : ℕ) → b ≤ places n → (j : ℕ) → Among j (kids n b v) → Kid n b v j
kids_are n b v h j a = let k = kids_by n v (places n - b) (omega arith) j a in record { up = k.up; from = omega (arith, k.from); within = k.within }

kids_many : (n : Net) (v l : ℕ) → length (wires_of (hanging n l v)) ≤ l
unfolding hanging
kids_many n v zero = omega arith
kids_many n v (suc l) = elim (ℕ_discrete (parent n (places n - suc l)) v) [
  | yes e ↦ rw (eq-eqb (parent n (places n - suc l)) v e) (omega (arith, ap length (hung_wires n (places n - suc l) (hanging n l (places n - suc l)) (hanging n l v)), kids_many n v l))
  | no ne ↦ rw (ne_eqb (parent n (places n - suc l)) v ne) (omega (arith, kids_many n v l))
]

pub kids_few : (n : Net) (b v : ℕ) → length (kids n b v) ≤ places n - b
kids_few n b v = kids_many n v (places n - b)

-- among the kids are all that go up to v
kids_found : (n : Net) (v l j : ℕ) → l ≤ places n → parent n j ≡ v → places n - l ≤ j → j < places n → Among j (wires_of (hanging n l v))
unfolding hanging
kids_found n v zero j h e lo hi = absurd (omega arith)
kids_found n v (suc l) j h e lo hi = elim (ℕ_discrete (places n - suc l) j) [
  | yes q ↦ (
      let e' : parent n (places n - suc l) ≡ v = ap (parent n) q ∙ e in
      let w = hung_wires n (places n - suc l) (hanging n l (places n - suc l)) (hanging n l v) in
      rw (eq-eqb (parent n (places n - suc l)) v e') (subst (λ (x : List ℕ). Among j x) (sym w) (subst (λ (i : ℕ). Among j (i ∷ wires_of (hanging n l v))) (sym q) here))
      )
  | no ne ↦ (
      let r : Among j (wires_of (hanging n l v)) = kids_found n v l j (omega arith) e (omega arith) hi in
      elim (ℕ_discrete (parent n (places n - suc l)) v) [
        | yes e' ↦ rw (eq-eqb (parent n (places n - suc l)) v e') (subst (λ (x : List ℕ). Among j x) (sym (hung_wires n (places n - suc l) (hanging n l (places n - suc l)) (hanging n l v))) (there r))
        | no ne' ↦ rw (ne_eqb (parent n (places n - suc l)) v ne') r
      ]
      )
]

pub kids_has : (n : Net) (b v j : ℕ) → parent n j ≡ v → b ≤ j → j < places n → Among j (kids n b v)
kids_has n b v j e lo hi = kids_found n v (places n - b) j (omega arith) e (omega arith) hi

-- ---- the tree's statements over the list
each_list : (P : ℕ → Type 0) (f : Hanging) → marks.Each P f → Each P (wires_of f)
each_list P none e = tt
each_list P (sink i w c s r) e = (e.0, each_list P r e.1)
each_list P (branch i w f r) e = (e.0, each_list P r e.1)

pub each_tree : (P : ℕ → Type 0) (f : Hanging) → Each P (wires_of f) → marks.Each P f
each_tree P none e = tt
each_tree P (sink i w c s r) e = (e.0, each_tree P r e.1)
each_tree P (branch i w f r) e = (e.0, each_tree P r e.1)

pub sum_tree : (g : ℕ → ℕ) (f : Hanging) → sum g f ≡ sum_l g (wires_of f)
sum_tree g none = refl
sum_tree g (sink i w c s r) = omega (arith, sum_tree g r)
sum_tree g (branch i w f r) = omega (arith, sum_tree g r)

-- the same wires with the same numbers
pub relieved_same : (τ : Cell) (a k a' k' : ℕ → ℕ) (f : Hanging) (h : ℕ) → ((j : ℕ) → Among j (wires_of f) → (a' j ≡ a j) × (k' j ≡ k j)) → Relieved τ a k f h → Relieved τ a' k' f h
relieved_same τ a k a' k' f h same r =
    let ks : sum_l k' (wires_of f) ≡ sum_l k (wires_of f) = sum_same k' k (wires_of f) (λ j x. (same j x).1) in
    let os : sum_l (λ j. topped τ (k' j) (a' j)) (wires_of f) ≡ sum_l (λ j. topped τ (k j) (a j)) (wires_of f) = sum_same (λ j. topped τ (k' j) (a' j)) (λ j. topped τ (k j) (a j)) (wires_of f) (λ j x. let (p, q) = same j x in (λ ι. topped τ (q ι) (p ι))) in
    record {
      x = r.x;
      small = r.small;
      each = each_tree (λ j. Divides τ r.x (a' j) (k' j)) f (each_map (λ j. Divides τ r.x (a j) (k j)) (λ j. Divides τ r.x (a' j) (k' j)) (wires_of f) (λ j x d. let (p, q) = same j x in subst (λ (y : ℕ). Divides τ r.x y (k' j)) (sym p) (subst (Divides τ r.x (a j)) (sym q) d)) (each_list (λ j. Divides τ r.x (a j) (k j)) f r.each));
      tight = λ l. r.tight (omega (arith, sum_tree k f, sum_tree k' f));
      load = sum_tree (λ j. topped τ (k' j) (a' j)) f ∙ os ∙ sym (sum_tree (λ j. topped τ (k j) (a j)) f) ∙ r.load;
    }
