-- Children, counted: what one node more makes of the counts, and how far a count can go.
use Prim.Native.Nat.{ℕ, zero, suc, ◌+◌, ◌-◌, ◌≤◌, ◌<◌}
use mathlib.Core.Path.{◌≡◌, refl, sym}
use mathlib.Core.List.{List}
use native.Mathlib.Omega.{arith}
use native.Mathlib.Decide.{ℕ_discrete, dec_lt}
use lib.ListN.{length, get_or, set, length-set, replicate, length-replicate, get_or-replicate, get_or-eq_default}
use lib.Seq.{get_or-set_same, get_or-set_other}
use borrow.Author.Tests.{eq-eqb, ne_eqb}
use Rattle.rules.specs.Figures.{most_places}
use Rattle.rules.specs.Net.{Net, places, parent, kind}
use Rattle.rules.specs.Judge.{children, childed_by, childed}
use Rattle.rules.proofs.Each.{each_same}
use Rattle.screen.specs.Screened.{Tallied}

-- no child is counted yet
pub tallied_start : (n : Net) → Tallied n (replicate most_places 0) 1
unfolding children
tallied_start n = record { long = length-replicate {A = ℕ} most_places 0; each = λ v. zero_at_lem v (dec_lt v most_places) }
  where
    zero_at_lem : (v : ℕ) → Dec (v < most_places) → get_or {A = ℕ} (replicate most_places 0) v 0 ≡ 0
    zero_at_lem v (yes h) = get_or-replicate {A = ℕ} most_places v 0 0 h
    zero_at_lem v (no h) = let e : length {A = ℕ} (replicate most_places 0) ≤ v = omega (arith, length-replicate {A = ℕ} most_places 0) in get_or-eq_default (replicate most_places 0) 0 e

-- by the counts the judge knows who is childless
pub childed_is : {n : Net} {counts : List ℕ} → Tallied n counts (places n) → childed_by (kind n) (λ j. get_or counts j 0) (places n) ≡ childed n
childed_is {n} {counts} t = each_same _ _ (places n) 0 (λ j lo hi. rw (t.each j))

-- one child more
pub tallied_next : {n : Net} {counts : List ℕ} {i : ℕ} → Tallied n counts i → 1 ≤ i → parent n i < 1025 → Tallied n (set counts (parent n i) (get_or counts (parent n i) 0 + 1)) (i + 1)
unfolding children
tallied_next {n} {counts} {i} t lo hi = record { long = simp length-set t.long; each = each }
  where
    each : (v : ℕ) → get_or (set counts (parent n i) (get_or counts (parent n i) 0 + 1)) v 0 ≡ children n (i + 1 - 1) v
    each v =
        let e : i + 1 - 1 ≡ suc (i - 1) = omega arith in
        let s : suc (i - 1) ≡ i = omega arith in
        elim (ℕ_discrete (parent n i) v) [
          | yes q ↦ (
              let same : get_or (set counts (parent n i) (get_or counts (parent n i) 0 + 1)) (parent n i) 0 ≡ get_or counts (parent n i) 0 + 1 = get_or-set_same counts (parent n i) (get_or counts (parent n i) 0 + 1) 0 (omega (arith, t.long)) in
              rw (← q, e, s, eq-eqb (parent n i) (parent n i) refl, same) (omega (arith, t.each (parent n i)))
              )
          | no q ↦ rw (e, s, ne_eqb (parent n i) v q, get_or-set_other counts (parent n i) v (get_or counts (parent n i) 0 + 1) 0 (λ z. q (sym z))) (omega (arith, t.each v))
        ]

-- ---- children among the nodes up to k
children_most : (n : Net) (k v : ℕ) → children n k v ≤ k
unfolding children
children_most n zero v = omega arith
children_most n (suc k) v = elim (ℕ_discrete (parent n (suc k)) v) [
  | yes q ↦ rw (eq-eqb (parent n (suc k)) v q) (omega (arith, children_most n k v))
  | no q ↦ rw (ne_eqb (parent n (suc k)) v q) (omega (arith, children_most n k v))
]

-- node i is one more child than its parent had before it
pub child_counted : (n : Net) (k i : ℕ) → 1 ≤ i → i ≤ k → children n (i - 1) (parent n i) < children n k (parent n i)
unfolding children
child_counted n zero i lo hi = absurd (omega arith)
child_counted n (suc k) i lo hi = elim (ℕ_discrete i (suc k)) [
  | yes q ↦ (
      let e : suc k - 1 ≡ k = omega arith in
      rw (q, e, eq-eqb (parent n (suc k)) (parent n (suc k)) refl) (omega arith)
      )
  | no q ↦ (let h : children n (i - 1) (parent n i) < children n k (parent n i) = child_counted n k i lo (omega arith) in omega arith)
]

-- so a place that counts the children among the nodes before i holds less than i
pub count_below : {n : Net} {counts : List ℕ} {i : ℕ} → Tallied n counts i → 1 ≤ i → (v : ℕ) → get_or counts v 0 < i
count_below {n} {counts} {i} t lo v = omega (arith, t.each v, children_most n (i - 1) v)
