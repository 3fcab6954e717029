-- The judge's numbers: each is given, at its place, exactly where its row says. The rows exclude each other, because the two laws together leave one number and one place.
use Rattle.std.specs.Prelude.{Ok, Err}
use Prim.Native.Nat.{ℕ, zero, suc, ◌-◌, ◌≤◌, ◌<◌}
use mathlib.Core.Path.{◌≡◌, refl, sym, subst, ap, ◌∙◌}
use mathlib.Core.Bool.{Bool, true, false}
use native.Mathlib.Omega.{arith}
use native.Mathlib.Decide.{ℕ_discrete}
use mathlib.Core.Logic.{◌↔◌}
use lib.Dec.{eqb, ltb}
use borrow.Author.Tests.{eq-eqb, ne_eqb, lt-ltb, ltb-true}
use Rattle.rules.specs.declared.Refusal.{Refusal}
use Rattle.rules.specs.declared.Refusal.TheVariants.{OutOfRange, WrongParent, Childless, WrongColumns}
use Rattle.rules.specs.Judged.{Judged}
use Rattle.rules.specs.Refusal.{number_of, place_of, judged_number, judged_place}
use Rattle.rules.specs.Choose.{pick}
use Rattle.rules.specs.Net.{Net, places, parent, kind, node}
use Rattle.rules.proofs.Tests.{unless_met}
use Rattle.rules.proofs.Each.{first_refused, refused_first}
use Rattle.rules.specs.Judge.{unless, then_judge, columns_fit, limits_in_range, source_clear, node_in_range, parent_fits, node_judged, nodes_judged, children, has_child, childed, judged}

-- before the nodes are judged, all this holds
pub record Begun (n : Net) : Type 0 where
  pub fit : columns_fit n ≡ true
  pub limits : limits_in_range n.limits ≡ true
  pub clear : source_clear n ≡ true

-- node i is the first that is not admitted
pub record Stops (n : Net) (i : ℕ) : Type 0 where
  pub some : 1 ≤ i
  pub is : i < places n
  pub before : (j : ℕ) → 1 ≤ j → j < i → node_judged n j j ≡ (Ok tt)

-- node v is the first branch point, or the source, without a child
pub record Bare (n : Net) (v : ℕ) : Type 0 where
  pub is : v < places n
  pub before : (j : ℕ) → j < v → kind n j ≡ 0 → 1 ≤ children n (places n - 1) j
  pub branch : kind n v ≡ 0
  pub none : children n (places n - 1) v ≡ 0

-- one row a reason: the number k at the place p
pub data Row (n : Net) (k p : ℕ) : Type 0 where
  sound : judged n ≡ (Ok tt) → k ≡ 0 → p ≡ 0 → Row n k p
  columns : columns_fit n ≡ false → k ≡ 7 → p ≡ 0 → Row n k p
  limits : columns_fit n ≡ true → limits_in_range n.limits ≡ false → k ≡ 3 → p ≡ 0 → Row n k p
  source : columns_fit n ≡ true → limits_in_range n.limits ≡ true → source_clear n ≡ false → k ≡ 3 → p ≡ 0 → Row n k p
  range : Begun n → Stops n p → node_in_range n.limits (node n p) ≡ false → k ≡ 3 → Row n k p
  child : Begun n → Stops n p → node_in_range n.limits (node n p) ≡ true → parent_fits p (parent n p) (kind n (parent n p)) (children n (p - 1) (parent n p)) ≡ false → k ≡ 4 → Row n k p
  childless : Begun n → nodes_judged n ≡ (Ok tt) → Bare n p → k ≡ 5 → Row n k p

module _ (n : Net) where
  begun : Begun n → judged n ≡ then_judge (nodes_judged n) (childed n)
  unfolding judged
  begun h = rw (h.fit, h.limits, h.clear)

  stops : (i : ℕ) {r : Refusal} → Stops n i → node_judged n i i ≡ Err r → nodes_judged n ≡ Err r
  stops i h e = first_refused (λ j. node_judged n j j) (places n - 1) 1 i (record { low = h.some; high = omega (arith, h.some, h.is); before = h.before; here = e })

  given : (r : Refusal) {k p : ℕ} → judged n ≡ Err r → k ≡ number_of r → p ≡ place_of r → (judged_number (judged n) ≡ k) × (judged_place (judged n) ≡ p)
  given r e q s = (ap judged_number e ∙ sym q, ap judged_place e ∙ sym s)

  -- node i by its two tests
  out_of_range : (i : ℕ) → node_in_range n.limits (node n i) ≡ false → node_judged n i i ≡ Err (OutOfRange i)
  out_of_range i e = rw e

  wrong_parent : (i : ℕ) → node_in_range n.limits (node n i) ≡ true → parent_fits i (parent n i) (kind n (parent n i)) (children n (i - 1) (parent n i)) ≡ false → node_judged n i i ≡ Err (WrongParent i)
  wrong_parent i e f = rw (e, f)

  -- node v with a child, or a sink; and without
  has : (v : ℕ) → (kind n v ≡ 0 → 1 ≤ children n (places n - 1) v) → has_child v (kind n v) (children n (places n - 1) v) ≡ (Ok tt)
  has v h = elim (ℕ_discrete (kind n v) 0) [
    | yes q ↦ rw (eq-eqb (kind n v) 0 q, lt-ltb 0 (children n (places n - 1) v) (h q))
    | no q ↦ rw (ne_eqb (kind n v) 0 q)
  ]

  bare : (v : ℕ) → kind n v ≡ 0 → children n (places n - 1) v ≡ 0 → has_child v (kind n v) (children n (places n - 1) v) ≡ Err (Childless v)
  bare v q e = rw (q, e)

  pub row_given : {k p : ℕ} → Row n k p → (judged_number (judged n) ≡ k) × (judged_place (judged n) ≡ p)
  unfolding judged
  row_given (sound e q s) = (ap judged_number e ∙ sym q, ap judged_place e ∙ sym s)
  row_given (columns e q s) = given WrongColumns (rw e) q s
  row_given (limits a e q s) = given (OutOfRange 0) (rw (a, e)) q s
  row_given (source a b e q s) = given (OutOfRange 0) (rw (a, b, e)) q s
  row_given {k} {p} (range b h e q) = given (OutOfRange p) (begun b ∙ rw (stops p h (out_of_range p e))) q refl
  row_given {k} {p} (child b h e f q) = given (WrongParent p) (begun b ∙ rw (stops p h (wrong_parent p e f))) q refl
  row_given {k} {p} (childless b all h q) =
      let first : childed n ≡ Err (Childless p) = first_refused (λ i. has_child i (kind n i) (children n (places n - 1) i)) (places n) 0 p (record { low = omega arith; high = omega (arith, h.is); before = λ m lo hi. has m (h.before m hi); here = bare p h.branch h.none }) in
      given (Childless p) (begun b ∙ rw (all, first)) q refl

  -- the other way: what a refusal of node i, and of node v's children, was for
  of_node : Begun n → (i : ℕ) (r : Refusal) → Stops n i → (t u : Bool) → node_in_range n.limits (node n i) ≡ t → parent_fits i (parent n i) (kind n (parent n i)) (children n (i - 1) (parent n i)) ≡ u
      → then_judge (unless t (OutOfRange i)) (unless u (WrongParent i)) ≡ Err r → Row n (number_of r) (place_of r)
  of_node b i r h false u e f g = let q : OutOfRange i ≡ r = cc in subst (λ (x : Refusal). Row n (number_of x) (place_of x)) q (range b h e refl)
  of_node b i r h true false e f g = let q : WrongParent i ≡ r = cc in subst (λ (x : Refusal). Row n (number_of x) (place_of x)) q (child b h e f refl)
  of_node b i r h true true e f g = absurd (let z : ◌≡◌ {A = ℕ} 0 1 = cc in omega arith)

  kept : (v k c : ℕ) → has_child v k c ≡ (Ok tt) → k ≡ 0 → 1 ≤ c
  kept v k c e z = ltb-true 0 c (let met : pick (eqb k 0) (ltb 0 c) true ≡ true = unless_met _ (Childless v) e in rw (eq-eqb k 0 z) at met)

  of_child : Begun n → nodes_judged n ≡ (Ok tt) → (v k c : ℕ) (r : Refusal) → kind n v ≡ k → children n (places n - 1) v ≡ c → v < places n → ((j : ℕ) → j < v → kind n j ≡ 0 → 1 ≤ children n (places n - 1) j)
      → has_child v k c ≡ Err r → Row n (number_of r) (place_of r)
  of_child b all v zero zero r e f is before g = let q : Childless v ≡ r = cc in subst (λ (x : Refusal). Row n (number_of x) (place_of x)) q (childless b all (record { is = is; before = before; branch = e; none = f }) refl)
  of_child b all v zero (suc c) r e f is before g = absurd (let h = rw (lt-ltb 0 (suc c) (omega arith)) at g in let z : ◌≡◌ {A = ℕ} 0 1 = cc in omega arith)
  of_child b all v (suc k) c r e f is before g = absurd (let h = rw (ne_eqb (suc k) 0 (λ x. omega arith)) at g in let z : ◌≡◌ {A = ℕ} 0 1 = cc in omega arith)

  of_nodes : Begun n → (d e : Judged) → nodes_judged n ≡ d → childed n ≡ e → judged n ≡ then_judge d e → Row n (judged_number (then_judge d e)) (judged_place (then_judge d e))
  of_nodes b (Err r) e p q whole =
      let (i, f) = refused_first (λ j. node_judged n j j) (places n - 1) 1 p in
      of_node b i r (record { some = f.low; is = omega (arith, f.low, f.high); before = f.before }) _ _ refl refl f.here
  of_nodes b (Ok tt) (Err r) p q whole =
      let (v, f) = refused_first (λ j. has_child j (kind n j) (children n (places n - 1) j)) (places n) 0 q in
      of_child b p v (kind n v) (children n (places n - 1) v) r refl refl (omega (arith, f.high)) (λ j hi. kept j (kind n j) (children n (places n - 1) j) (f.before j (omega arith) hi)) f.here
  of_nodes b (Ok _) (Ok _) p q whole = sound whole refl refl

  of_tests : (a b c : Bool) → columns_fit n ≡ a → limits_in_range n.limits ≡ b → source_clear n ≡ c → Row n (judged_number (judged n)) (judged_place (judged n))
  unfolding judged
  of_tests false b c e f g = rw e (columns e refl refl)
  of_tests true false c e f g = rw (e, f) (limits e f refl refl)
  of_tests true true false e f g = rw (e, f, g) (source e f g refl refl)
  of_tests true true true e f g = let h : Begun n = record { fit = e; limits = f; clear = g } in rw (begun h) (of_nodes h (nodes_judged n) (childed n) refl refl (begun h))

  -- both ways
  pub row_is : (k p : ℕ) → Row n k p ↔ ((judged_number (judged n) ≡ k) × (judged_place (judged n) ≡ p))
  row_is k p = (row_given, λ h. subst (λ (x : ℕ). Row n x p) h.0 (subst (Row n (judged_number (judged n))) h.1 (of_tests _ _ _ refl refl refl)))
