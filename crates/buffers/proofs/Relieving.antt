-- Topping the heaviest wire keeps what makes the choice the best.
use Rattle.std.specs.Prelude.{Option, Some, None}
use Prim.Native.Nat.{ℕ, ◌+◌, ◌-◌, ◌≤◌, ◌<◌}
use mathlib.Core.Path.{◌≡◌, refl, sym, subst, ap, ◌∙◌}
use mathlib.Core.List.{List, [], ◌∷◌}
use lib.ListN.{length, get_or, set, length-set}
use lib.Seq.{get_or-set_same, get_or-set_other}
use native.Mathlib.Omega.{arith}
use native.Mathlib.Decide.{ℕ_discrete}
use Rattle.rules.specs.Legal.{Each}
use Rattle.frontier.specs.Cell.{Cell}
use Rattle.rules.specs.Figures.{most_places}
use Rattle.relief.specs.Pieces.{topped}
use Rattle.relief.specs.Marks.{Divides, light, heavy}
use Rattle.buffers.specs.Chain.{Chain, Among, sum_l, Chained, Heaviest, no_more, is_at}
use Rattle.buffers.specs.Easing.{Fresh, Loaded, Easing, within, stuck, Eased}
use Rattle.buffers.proofs.Lists.{each_of, each_at, sum_least, Rises, sum_set, chain_rises, chain_low, chain_one}

-- what is topped hands up the pin, and what is not what it did
pub data Either (τ : Cell) (x a k t : ℕ) : Type 0 where
  bare : k ≡ 0 → a ≤ τ.cb + x → t ≡ a → Either τ x a k t
  done : k ≡ 1 → τ.cb + x ≤ a → t ≡ τ.cb → Either τ x a k t

either : (τ : Cell) (x a k t : ℕ) → Divides τ x a k → t ≡ topped τ k a → Either τ x a k t
either τ x a k t (light h) e = bare refl h e
either τ x a k t (heavy h) e = done refl h e

module _ (τ : Cell) (eq : τ.cu ≡ τ.cb + τ.D) where
  as_light : (x a k : ℕ) → k ≡ 0 → a ≤ τ.cb + x → Divides τ x a k
  as_light x a k e h = subst (Divides τ x a) (sym e) (light h)

  as_heavy : (x a k : ℕ) → k ≡ 1 → τ.cb + x ≤ a → Divides τ x a k
  as_heavy x a k e h = subst (Divides τ x a) (sym e) (heavy h)

  top_zero : (k a : ℕ) → k ≡ 0 → topped τ k a ≡ a
  top_zero k a e = subst (λ (k : ℕ). topped τ k a ≡ a) (sym e) refl

  top_one : (k a : ℕ) → k ≡ 1 → topped τ k a ≡ τ.cb
  top_one k a e = subst (λ (k : ℕ). topped τ k a ≡ τ.cb) (sym e) refl

  sum_none : (on js : List ℕ) → Each (λ j. get_or on j 0 ≡ 0) js → sum_l (λ j. get_or on j 0) js ≡ 0
  sum_none on [] e = refl
  sum_none on (j ∷ js) e = omega (arith, e.0, sum_none on js e.1)

  pub easing_start : (tops on js : List ℕ) (h : ℕ) → Fresh τ tops on js h → Easing τ tops on tops on js h
  easing_start tops on js h f = record {
    x = τ.D;
    small = omega arith;
    each = each_of (λ j. Divides τ τ.D (get_or tops j 0) (get_or on j 0)) js (λ j a. as_light τ.D (get_or tops j 0) (get_or on j 0) (each_at (λ j. get_or on j 0 ≡ 0) js f.clear j a) (omega (arith, each_at (λ j. get_or tops j 0 ≤ τ.cu) js f.within j a)));
    tight = λ k. absurd (omega (arith, sum_none on js f.clear));
    load = f.sum;
    tops_are = each_of (λ j. get_or tops j 0 ≡ topped τ (get_or on j 0) (get_or tops j 0)) js (λ j a. sym (top_zero (get_or on j 0) (get_or tops j 0) (each_at (λ j. get_or on j 0 ≡ 0) js f.clear j a)));
    tops_kept = λ j a. refl;
    on_kept = λ j a. refl;
    tops_long = refl;
    on_long = refl;
  }

  module _ (tops₀ on₀ tops on js : List ℕ) (h : ℕ) (e : Easing τ tops₀ on₀ tops on js h) where
    abbrev pub At : ℕ → Type 0
    At i = Either τ e.x (get_or tops₀ i 0) (get_or on i 0) (get_or tops i 0)

    pub at : (i : ℕ) → Among i js → At i
    at i a =
        either τ e.x (get_or tops₀ i 0) (get_or on i 0) (get_or tops i 0) (each_at (λ j. Divides τ e.x (get_or tops₀ j 0) (get_or on j 0)) js e.each i a)
        (each_at (λ j. get_or tops j 0 ≡ topped τ (get_or on j 0) (get_or tops₀ j 0)) js e.tops_are i a)

    module _ (j : ℕ) (rises : Rises js) (among : Among j js) (over : τ.cb < get_or tops j 0) (most : Each (λ i. get_or tops i 0 ≤ get_or tops j 0) js)
        (in_tops : j < length tops) (in_on : j < length on) (full : τ.cu < h) where
      -- the new threshold
      abbrev y : ℕ
      y = get_or tops j 0 - τ.cb

      -- j is not topped yet
      pub own : (get_or tops j 0 ≡ get_or tops₀ j 0) × (get_or tops j 0 ≤ τ.cb + e.x)
      own = go (at j among)
        where
          go : At j → (get_or tops j 0 ≡ get_or tops₀ j 0) × (get_or tops j 0 ≤ τ.cb + e.x)
          go (bare k l t) = (t, omega arith)
          go (done k l t) = absurd (omega arith)

      tops_j : get_or (set tops j τ.cb) j 0 ≡ τ.cb
      tops_j = get_or-set_same tops j τ.cb 0 in_tops

      on_j : get_or (set on j 1) j 0 ≡ 1
      on_j = get_or-set_same on j 1 0 in_on

      tops_i : (i : ℕ) → (i ≡ j → ⊥) → get_or (set tops j τ.cb) i 0 ≡ get_or tops i 0
      tops_i i ne = get_or-set_other tops j i τ.cb 0 ne

      on_i : (i : ℕ) → (i ≡ j → ⊥) → get_or (set on j 1) i 0 ≡ get_or on i 0
      on_i i ne = get_or-set_other on j i 1 0 ne

      divides : (i : ℕ) → Among i js → Divides τ y (get_or tops₀ i 0) (get_or (set on j 1) i 0)
      divides i a = elim (ℕ_discrete i j) [
        | yes q ↦ subst (λ (i : ℕ). Divides τ y (get_or tops₀ i 0) (get_or (set on j 1) i 0)) (sym q) (as_heavy y (get_or tops₀ j 0) (get_or (set on j 1) j 0) on_j (omega (arith, own.0)))
        | no ne ↦ go ne (at i a)
      ]
        where
          go : (i ≡ j → ⊥) → At i → Divides τ y (get_or tops₀ i 0) (get_or (set on j 1) i 0)
          go ne (bare k l t) = as_light y (get_or tops₀ i 0) (get_or (set on j 1) i 0) (on_i i ne ∙ k) (omega (arith, each_at (λ i. get_or tops i 0 ≤ get_or tops j 0) js most i a))
          go ne (done k l t) = as_heavy y (get_or tops₀ i 0) (get_or (set on j 1) i 0) (on_i i ne ∙ k) (omega (arith, own.1))

      tops_be : (i : ℕ) → Among i js → get_or (set tops j τ.cb) i 0 ≡ topped τ (get_or (set on j 1) i 0) (get_or tops₀ i 0)
      tops_be i a = elim (ℕ_discrete i j) [
        | yes q ↦ subst (λ (i : ℕ). get_or (set tops j τ.cb) i 0 ≡ topped τ (get_or (set on j 1) i 0) (get_or tops₀ i 0)) (sym q) (tops_j ∙ sym (top_one (get_or (set on j 1) j 0) (get_or tops₀ j 0) on_j))
        | no ne ↦ tops_i i ne ∙ each_at (λ j. get_or tops j 0 ≡ topped τ (get_or on j 0) (get_or tops₀ j 0)) js e.tops_are i a ∙ ap (λ (k : ℕ). topped τ k (get_or tops₀ i 0)) (sym (on_i i ne))
      ]

      pub easing_more : Easing τ tops₀ on₀ (set tops j τ.cb) (set on j 1) js (h - (get_or tops j 0 - τ.cb))
      easing_more =
          let s : sum_l (λ i. get_or (set tops j τ.cb) i 0) js + get_or tops j 0 ≡ sum_l (λ i. get_or tops i 0) js + get_or (set tops j τ.cb) j 0 = sum_set (λ i. get_or tops i 0) (λ i. get_or (set tops j τ.cb) i 0) js j rises among tops_i in
          record {
            x = y;
            small = omega (arith, own.1, e.small);
            each = each_of (λ i. Divides τ y (get_or tops₀ i 0) (get_or (set on j 1) i 0)) js divides;
            tight = λ k. omega (arith, e.load, sum_least (λ i. get_or tops i 0) js j among);
            load = omega (arith, s, tops_j, e.load, sum_least (λ i. get_or tops i 0) js j among);
            tops_are = each_of (λ i. get_or (set tops j τ.cb) i 0 ≡ topped τ (get_or (set on j 1) i 0) (get_or tops₀ i 0)) js tops_be;
            tops_kept = λ i a. tops_i i (λ q. a (subst (λ (x : ℕ). Among x js) (sym q) among)) ∙ e.tops_kept i a;
            on_kept = λ i a. on_i i (λ q. a (subst (λ (x : ℕ). Among x js) (sym q) among)) ∙ e.on_kept i a;
            tops_long = length-set tops j τ.cb ∙ e.tops_long;
            on_long = length-set on j 1 ∙ e.on_long;
          }

-- ---- the loop
pub record Progress (τ : Cell) (links tops₀ on₀ : List ℕ) (first load : ℕ) (tops on : List ℕ) (h : ℕ) : Type 0 where
  pub loaded : Loaded τ links tops₀ on₀ first load
  pub easing : Easing τ tops₀ on₀ tops on loaded.chained.js h

pub progress_start : {τ : Cell} {links tops on : List ℕ} {first load : ℕ} → τ.cu ≡ τ.cb + τ.D → Loaded τ links tops on first load → Progress τ links tops on first load tops on load
progress_start {τ} {links} {tops} {on} {first} {load} eq l = record { loaded = l; easing = easing_start τ eq tops on l.chained.js load l.fresh }

-- the wire that is topped next
pub record Picked (τ : Cell) (tops on js : List ℕ) (h j : ℕ) : Type 0 where
  pub among : Among j js
  pub over : τ.cb < get_or tops j 0
  pub most : Each (λ i. get_or tops i 0 ≤ get_or tops j 0) js
  pub in_tops : j < length tops
  pub in_on : j < length on
  pub enough : get_or tops j 0 ≤ h
  pub few : length tops ≤ most_places

module _ {τ : Cell} {links tops₀ on₀ : List ℕ} {first load : ℕ} {tops on : List ℕ} {h : ℕ} (p : Progress τ links tops₀ on₀ first load tops on h) where
  abbrev js : List ℕ
  js = p.loaded.chained.js

  chain_now : Chain (length tops) links first js
  chain_now = subst (λ (N : ℕ). Chain N links first js) (sym p.easing.tops_long) p.loaded.chained.chain

  pub progress_chained : Chained links tops first
  progress_chained = let c = p.loaded.chained in record { long = c.long ∙ sym p.easing.tops_long; few = omega (arith, c.few, p.easing.tops_long); js = js; chain = chain_now }

  pub picked : {r : Option ℕ} {j : ℕ} → ((is : List ℕ) → Chain (length tops) links first is → Heaviest tops τ.cb is r) → r ≡ Some j → Picked τ tops on js h j
  picked {j = j} f e = go (subst (Heaviest tops τ.cb js) e (f js chain_now))
    where
      go : Heaviest tops τ.cb js (Some j) → Picked τ tops on js h j
      go (is_at a o m) = record {
        among = a;
        over = o;
        most = m;
        in_tops = each_at (λ i. i < length tops) js (chain_low (length tops) links first js chain_now) j a;
        in_on = omega (arith, each_at (λ i. i < length tops) js (chain_low (length tops) links first js chain_now) j a, p.easing.tops_long, p.easing.on_long, p.loaded.on_long);
        enough = omega (arith, sum_least (λ i. get_or tops i 0) js j a, p.easing.load);
        few = omega (arith, p.loaded.chained.few, p.easing.tops_long);
      }

  pub progress_more : τ.cu ≡ τ.cb + τ.D → (j : ℕ) → Picked τ tops on js h j → τ.cu < h → Progress τ links tops₀ on₀ first load (set tops j τ.cb) (set on j 1) (h - (get_or tops j 0 - τ.cb))
  progress_more eq j k full = record {
    loaded = p.loaded;
    easing = easing_more τ eq tops₀ on₀ tops on js h p.easing j (chain_rises (length tops) links first js chain_now) k.among k.over k.most k.in_tops k.in_on full;
  }

  all_chains : Eased τ tops₀ on₀ tops on js h → (is : List ℕ) → Chain (length tops₀) links first is → Eased τ tops₀ on₀ tops on is h
  all_chains e is c = subst (λ (l : List ℕ). Eased τ tops₀ on₀ tops on l h) (chain_one (length tops₀) links first js is p.loaded.chained.chain c) e

  pub progress_fits : h ≤ τ.cu → (is : List ℕ) → Chain (length tops₀) links first is → Eased τ tops₀ on₀ tops on is h
  progress_fits le = all_chains (record { easing = p.easing; ended = within le })

  pub progress_stuck : {r : Option ℕ} → ((is : List ℕ) → Chain (length tops) links first is → Heaviest tops τ.cb is r) → r ≡ None → τ.cu < h → (is : List ℕ) → Chain (length tops₀) links first is → Eased τ tops₀ on₀ tops on is h
  progress_stuck f e full = all_chains (record { easing = p.easing; ended = stuck full (go (subst (Heaviest tops τ.cb js) e (f js chain_now))) })
    where
      go : Heaviest tops τ.cb js None → Each (λ i. get_or tops i 0 ≤ τ.cb) js
      go (no_more x) = x
