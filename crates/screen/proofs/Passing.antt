-- What the passes have met makes every judgement Sound.
use Rattle.std.specs.Prelude.{Ok}
use Prim.Native.Nat.{ℕ, ◌+◌, ◌-◌, ◌*◌, ◌≤◌, ◌<◌}
use mathlib.Core.Path.{◌≡◌, refl, sym, ◌∙◌}
use mathlib.Core.Bool.{Bool, true, false, ◌&&◌, beq}
use mathlib.Core.List.{List}
use native.Mathlib.Omega.{arith}
use native.Mathlib.Decide.{ℕ_discrete}
use lib.ListN.{length, get_or}
use lib.Dec.{eqb, ltb, leb}
use borrow.Author.Tests.{eq-eqb, ne_eqb, lt-ltb, le-leb, eqb-true, ltb-true, leb-true}
use Rattle.rules.specs.declared.Refusal.TheVariants.{Childless}
use Rattle.rules.specs.Figures.{most_wire, most_pin, most_nodes, most_children}
use Rattle.rules.specs.Choose.{pick}
use Rattle.rules.specs.Net.{Net, places, parent, wire, kind, pin, polarity, node}
use Rattle.rules.specs.Judge.{unless, node_in_range, children, parent_fits, nodes_judged, has_child, childed}
use Rattle.rules.proofs.Tests.{never, both_met, both_true}
use Rattle.rules.proofs.Each.{each_sound}
use Rattle.rules.proofs.Judging.{unless_true, then_both}
use Rattle.screen.specs.Screened.{Level, Tallied, Every, node_fits, count_fits, Passed}
use Rattle.screen.proofs.Tallying.{childed_is, child_counted}

-- ---- a pass
pub every_start : (f : ℕ → Bool) (a : ℕ) (r : Bool) → Every f a a r
every_start f a r = record { met = λ t i lo hi. absurd (omega arith) }

pub every_next : {f : ℕ → Bool} {a i : ℕ} {b r : Bool} → Every f a i b → r ≡ f i && b → Every f a (i + 1) r
every_next {f} {a} {i} {b} {r} h e = record { met = met }
  where
    met : r ≡ true → (j : ℕ) → a ≤ j → j < i + 1 → f j ≡ true
    met t j lo hi =
        let (here, before) = both_met (f i) b (sym e ∙ t) in
        elim (ℕ_discrete j i) [ yes q ↦ rw q here | no q ↦ h.met before j lo (omega arith) ]

pub every_end : {f : ℕ → Bool} {a i m : ℕ} {r : Bool} → Every f a i r → m ≤ i → Every f a m r
every_end h e = record { met = λ t j lo hi. h.met t j lo (omega arith) }

-- ---- a node that fits
node_fits_lem : (n : Net) (i : ℕ) → node_fits n i ≡ true → (node_in_range n.limits (node n i) ≡ true) × (parent n i < i)
node_fits_lem n i e =
    let k = kind n i in
    let q = polarity n i in
    let end = leb (pin n i) (most_pin * k) && leb q k && leb q n.limits.repeater in
    let (x, lower) = both_met (leb (wire n i) most_wire && leb k 1 && end) (ltb (parent n i) i) e in
    let (y, z) = both_met (leb (wire n i) most_wire && leb k 1) end x in
    let (w, one) = both_met (leb (wire n i) most_wire) (leb k 1) y in
    let (u, most) = both_met (leb (pin n i) (most_pin * k) && leb q k) (leb q n.limits.repeater) z in
    let (c, low) = both_met (leb (pin n i) (most_pin * k)) (leb q k) u in
    let pins : pin n i ≤ most_pin * k = leb-true _ _ c in
    let kinds : k ≤ 1 = leb-true _ _ one in
    let lows : q ≤ k = leb-true _ _ low in (
      elim (ℕ_discrete k 1) [
        | yes s ↦ both_true w (rw (eq-eqb k 1 s) (both_true (le-leb (pin n i) most_pin (omega arith)) most))
        | no s ↦ both_true w (rw (ne_eqb k 1 s) (both_true (eq-eqb k 0 (omega arith)) (both_true (eq-eqb (pin n i) 0 (omega arith)) (eq-eqb q 0 (omega arith)))))
      ],
      ltb-true (parent n i) i lower,
    )

-- ---- a count that fits the kind
beq_met : (a b : Bool) → beq a b ≡ true → a ≡ b
beq_met true true e = refl
beq_met true false e = sym e
beq_met false true e = e
beq_met false false e = refl

module _ (k c : ℕ) (e : count_fits k c ≡ true) where
  few_fit : c ≤ most_children
  few_fit = leb-true c most_children (both_met (leb c most_children) _ e).0

  same_fit : eqb k 0 ≡ ltb 0 c
  same_fit = beq_met (eqb k 0) (ltb 0 c) (both_met (leb c most_children) _ e).1

  some_fit : 0 < c → k ≡ 0
  some_fit some = eqb-true k 0 (same_fit ∙ lt-ltb 0 c some)

  child_fit : (i : ℕ) → has_child i k c ≡ (Ok tt)
  child_fit i = rw same_fit (by (ltb 0 c))
    where
      by : (t : Bool) → unless (pick t t true) (Childless i) ≡ (Ok tt)
      by true = refl
      by false = refl

-- ---- all passes
module _ {n : Net} (v : Level n) {r : Bool} (nodes : Every (node_fits n) 1 (places n) r) (met : r ≡ true) where
  pub lower_met : (i : ℕ) → 1 ≤ i → i < places n → parent n i < i
  lower_met i lo hi = (node_fits_lem n i (nodes.met met i lo hi)).1

  module _ {counts : List ℕ} (t : Tallied n counts (places n)) {y : Bool} (fits : Every (λ j. count_fits (kind n j) (get_or counts j 0)) 0 (length n.kinds) y) (fit : y ≡ true) where
    parent_met : (i : ℕ) → 1 ≤ i → i < places n → parent_fits i (parent n i) (kind n (parent n i)) (children n (i - 1) (parent n i)) ≡ true
    parent_met i lo hi =
        let p = parent n i in
        let lower : p < i = lower_met i lo hi in
        let one : children n (i - 1) p < children n (places n - 1) p = child_counted n (places n - 1) i lo (omega arith) in
        let at = fits.met fit p (omega arith) (omega arith) in
        let few : get_or counts p 0 ≤ most_children = few_fit (kind n p) (get_or counts p 0) at in
        both_true (le-leb i most_nodes (omega arith))
        (both_true (lt-ltb p i lower) (both_true (eq-eqb (kind n p) 0 (some_fit (kind n p) (get_or counts p 0) at (omega (arith, t.each p)))) (lt-ltb (children n (i - 1) p) most_children (omega (arith, t.each p)))))

    nodes_met : nodes_judged n ≡ (Ok tt)
    nodes_met = each_sound _ _ 1 (λ i lo hi. let h : i < places n = omega arith in then_both (unless_true (node_fits_lem n i (nodes.met met i lo h)).0 _) (unless_true (parent_met i lo h) _))

    children_met : childed n ≡ (Ok tt)
    children_met = sym (childed_is t) ∙ each_sound _ _ 0 (λ j lo hi. child_fit (kind n j) (get_or counts j 0) (fits.met fit j lo (omega arith)) j)

  pub passed : {counts : List ℕ} → Tallied n counts (places n) → {y : Bool} → Every (λ j. count_fits (kind n j) (get_or counts j 0)) 0 (length n.kinds) y → Passed n y
  passed t fits = record { nodes = λ fit. nodes_met t fits fit; children = λ fit. children_met t fits fit }

pub not_passed : (n : Net) → Passed n false
not_passed n = record { nodes = λ e. never (sym e); children = λ e. never (sym e) }
