-- Entries by spacing: what is written so far and what is still to be written make the whole of them.
use Prim.Native.Nat.{ℕ, zero, suc, ◌+◌, ◌-◌, ◌≤◌, ◌<◌, min}
use mathlib.Core.Path.{◌≡◌, refl, sym, ap, ◌∙◌}
use mathlib.Core.List.{List, [], ◌∷◌, ◌++◌, append_assoc, append-nil}
use native.Mathlib.Omega.{arith}
use lib.ListN.{length, set, replicate, length-append, length-replicate, replicate-append-replicate}
use lib.Seq.{sets, length-sets}
use Rattle.frontier.specs.Spaced.{steps}

pub sets_append : (l : List ℕ) (i : ℕ) (xs ys : List ℕ) → sets l i (xs ++ ys) ≡ sets (sets l i xs) (i + length xs) ys
sets_append l i [] ys = let e : i + 0 ≡ i = omega arith in rw e
sets_append l i (x ∷ xs) ys = let e : i + suc (length xs) ≡ suc i + length xs = omega arith in sets_append (set l i x) (suc i) xs ys ∙ rw e

pub steps_length : (w d o r : ℕ) → length (steps w d o r) ≡ r
unfolding steps
steps_length w d o zero = refl
steps_length w d o (suc r) = ap suc (steps_length w d (min w (o + d)) r)

-- without a span they stand at one place
pub steps_still : (w r : ℕ) → steps w 0 w r ≡ replicate r w
unfolding steps
steps_still w zero = refl
steps_still w (suc r) = let e : min w (w + 0) ≡ w = omega arith in ap (λ (os : List ℕ). w ∷ os) (rw e (steps_still w r))

pub record Spacing (ws₀ ws os₀ os : List ℕ) (at i w o d r x j : ℕ) : Type 0 where
  pub done : List ℕ
  pub long : length done ≡ j
  pub few : j ≤ r
  pub within : x ≤ w
  pub all : steps w d o r ≡ done ++ steps w d x (r - j)
  pub wires : ws ≡ sets ws₀ at (replicate j i)
  pub offs : os ≡ sets os₀ at done

pub spacing_none : (ws os : List ℕ) (at i w o d r : ℕ) → o ≤ w → Spacing ws ws os os at i w o d r o 0
spacing_none ws os at i w o d r h = record { done = []; long = refl; few = omega arith; within = h; all = let e : r - 0 ≡ r = omega arith in rw e; wires = refl; offs = refl }

pub spacing_more : {ws₀ ws os₀ os : List ℕ} {at i w o d r x j : ℕ} → Spacing ws₀ ws os₀ os at i w o d r x j → j < r → (y : ℕ) → y ≡ min w (x + d)
    → Spacing ws₀ (set ws (at + j) i) os₀ (set os (at + j) x) at i w o d r y (j + 1)
unfolding steps
spacing_more {ws₀} {ws} {os₀} {os} {at} {i} {w} {o} {d} {r} {x} {j} s h y ey = record {
  done = s.done ++ (x ∷ []);
  long = length-append s.done (x ∷ []) ∙ omega (arith, s.long);
  few = omega arith;
  within = omega arith;
  all = s.all ∙ ap (λ (os : List ℕ). s.done ++ os) head ∙ sym (append_assoc s.done (x ∷ []) (steps w d y (r - (j + 1))));
  wires =
      ap (λ (l : List ℕ). set l (at + j) i) s.wires
      ∙ ap (λ (k : ℕ). set (sets ws₀ at (replicate j i)) (at + k) i) (sym (length-replicate {A = ℕ} j i))
      ∙ sym (sets_append ws₀ at (replicate j i) (i ∷ []))
      ∙ ap (sets ws₀ at) (replicate-append-replicate {A = ℕ} j 1 i);
  offs = ap (λ (l : List ℕ). set l (at + j) x) s.offs ∙ ap (λ (k : ℕ). set (sets os₀ at s.done) (at + k) x) (sym s.long) ∙ sym (sets_append os₀ at s.done (x ∷ []));
}
  where
    head : steps w d x (r - j) ≡ x ∷ steps w d y (r - (j + 1))
    head = let e : r - j ≡ suc (r - (j + 1)) = omega arith in rw (e, ey)

pub spacing_all : {ws₀ ws os₀ os : List ℕ} {at i w o d r x j : ℕ} → Spacing ws₀ ws os₀ os at i w o d r x j → r ≤ j → (ws ≡ sets ws₀ at (replicate r i)) × (os ≡ sets os₀ at (steps w d o r))
unfolding steps
spacing_all {ws₀} {ws} {os₀} {os} {at} {i} {w} {o} {d} {r} {x} {j} s h =
    let e : j ≡ r = omega (arith, s.few) in
    let z : r - j ≡ 0 = omega arith in
    let a : steps w d o r ≡ s.done = s.all ∙ rw z (append-nil s.done) in
    (s.wires ∙ ap (λ (k : ℕ). sets ws₀ at (replicate k i)) e, s.offs ∙ ap (sets os₀ at) (sym a))

pub wires_long : {ws₀ ws os₀ os : List ℕ} {at i w o d r x j : ℕ} → Spacing ws₀ ws os₀ os at i w o d r x j → length ws ≡ length ws₀
wires_long {ws₀} {at = at} {i = i} {j = j} s = ap length s.wires ∙ length-sets ws₀ at (replicate j i)

pub offs_long : {ws₀ ws os₀ os : List ℕ} {at i w o d r x j : ℕ} → Spacing ws₀ ws os₀ os at i w o d r x j → length os ≡ length os₀
offs_long {os₀ = os₀} {at = at} s = ap length s.offs ∙ length-sets os₀ at s.done

-- two runs, one after the other
pub both_wires : (l : List ℕ) (at i r k : ℕ) {l₁ l₂ : List ℕ} → l₁ ≡ sets l at (replicate r i) → l₂ ≡ sets l₁ (at + r) (replicate k i) → l₂ ≡ sets l at (replicate (r + k) i)
both_wires l at i r k e f =
    f ∙ ap (λ (l : List ℕ). sets l (at + r) (replicate k i)) e ∙ ap (λ (n : ℕ). sets (sets l at (replicate r i)) (at + n) (replicate k i)) (sym (length-replicate {A = ℕ} r i))
    ∙ sym (sets_append l at (replicate r i) (replicate k i)) ∙ ap (sets l at) (replicate-append-replicate {A = ℕ} r k i)
