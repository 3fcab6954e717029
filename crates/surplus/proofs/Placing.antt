-- A wire's offsets: as far apart as they may be, and then at the upper end. What they drive and hand up.
use Prim.Native.Nat.{ℕ, zero, suc, ◌+◌, ◌-◌, ◌*◌, ◌≤◌, min}
use mathlib.Core.Path.{◌≡◌, sym, subst, ap, ◌∙◌}
use mathlib.Core.List.{List, [], ◌∷◌, ◌++◌, append-nil, append_assoc}
use lib.ListN.{length, length-append, replicate}
use native.Mathlib.Nat.{le_trans, le_refl}
use native.Mathlib.Omega.{arith}
use Rattle.frontier.specs.Cell.{inv, Cell}
use Rattle.frontier.specs.Plan.{GoodW, top_w}
use Rattle.frontier.specs.Frontier.{State, lost, has, T}
use Rattle.frontier.proofs.Lower.{Tidy, T-mono, req_ok, T-fits}
use Rattle.frontier.specs.Spaced.{spread, steps}
use Rattle.frontier.proofs.Attained.{spread_length, spread_steps, spread_good, spread_top, add_good, add_top}
use Rattle.surplus.specs.Choice.{Under, Met, offsets}

-- k more at the upper end
abbrev pub stack : List ℕ → ℕ → ℕ → List ℕ
stack os zero w = os
stack os (suc k) w = stack (os ++ (w ∷ [])) k w

-- r by spacing over a load h, and k at the upper end
abbrev pub stacked : Cell → ℕ → ℕ → ℕ → ℕ → List ℕ
stacked τ w h r k = stack (spread τ w 0 h r) k w

stack_replicate : (os : List ℕ) (k w : ℕ) → stack os k w ≡ os ++ replicate k w
stack_replicate os zero w = sym (append-nil os)
stack_replicate os (suc k) w = stack_replicate (os ++ (w ∷ [])) k w ∙ append_assoc os (w ∷ []) (replicate k w)

-- these are the offsets that are written
pub offsets_are : (τ : Cell) → τ.cu ≡ τ.cb + τ.D → (w h r k : ℕ) → offsets τ w h r k ≡ stacked τ w h r k
offsets_are τ eq w h r k =
    let z : 0 + (τ.cu - h) ≡ τ.cu - h = omega arith in
    sym (stack_replicate (spread τ w 0 h r) k w ∙ ap (λ (os : List ℕ). os ++ replicate k w) (spread_steps τ eq w 0 h r ∙ ap (λ (x : ℕ). steps w τ.D (min w x) r) z))

pub stack_length : (os : List ℕ) (k w : ℕ) → length (stack os k w) ≡ length os + k
stack_length os zero w = omega arith
stack_length os (suc k) w = omega (arith, stack_length (os ++ (w ∷ [])) k w, length-append os (w ∷ []))

module _ (τ : Cell) (eq : τ.cu ≡ τ.cb + τ.D) (pos : 1 ≤ τ.D) where
  stack_good : (w b k : ℕ) (os : List ℕ) → GoodW τ w 0 b os → top_w τ w 0 b os ≤ τ.cu → GoodW τ w 0 b (stack os k w)
  stack_good w b zero os g h = g
  stack_good w b (suc k) os g h = stack_good w b k (os ++ (w ∷ [])) (add_good τ eq pos w 0 b os g h) (omega (arith, add_top τ eq pos w 0 b os))

  stack_top : (w b k : ℕ) (os : List ℕ) → top_w τ w 0 b os ≤ τ.cb → top_w τ w 0 b (stack os k w) ≤ τ.cb
  stack_top w b zero os h = h
  stack_top w b (suc k) os h = stack_top w b k (os ++ (w ∷ [])) (add_top τ eq pos w 0 b os)

  stack_topped : (w b k : ℕ) (os : List ℕ) → 1 ≤ k → top_w τ w 0 b (stack os k w) ≤ τ.cb
  stack_topped w b zero os h = absurd (omega arith)
  stack_topped w b (suc k) os h = stack_top w b k (os ++ (w ∷ [])) (add_top τ eq pos w 0 b os)

  -- by spacing alone
  plain_top : (w h r : ℕ) → h ≤ τ.cu → top_w τ w 0 h (spread τ w 0 h r) ≤ T τ (w + h) r
  plain_top w h r hc = le_trans (spread_top τ eq pos w 0 h r (omega arith) hc) (T-mono τ eq pos ((w - 0) + h) (w + h) r (T τ (w + h) r) (omega arith) (le_refl (T τ (w + h) r)))

  under_fits : (s : State) (x n h : ℕ) → Tidy τ s → Under s x n h → h ≤ τ.cu
  under_fits lost x n h t u = absurd u
  under_fits (has m a b) zero n h t u = omega (arith, t.0, u.1)
  under_fits (has m a b) (suc x) n h t u = omega (arith, t.0, t.1, u.1)

  -- what a wire's choice comes to, with k more at the upper end
  pub record Stands (w m l h n : ℕ) (os : List ℕ) (k : ℕ) : Type 0 where
    pub good : GoodW τ w 0 h os
    pub count : n + length os ≤ m + k
    pub top : k ≡ 0 → top_w τ w 0 h os ≤ l
    pub topped : 1 ≤ k → top_w τ w 0 h os ≤ τ.cb

  pub stands : (π w : ℕ) (s : State) (m l x h r k : ℕ) → Tidy τ s → (o : Met τ π w s m l x h r) → Stands w m l h o.n (stacked τ w h r k) k
  stands π w s m l x h r k t o =
      let hc : h ≤ τ.cu = under_fits s x o.n h t o.under in
      let v : w + h ≤ τ.cu + r * τ.D = subst (λ (y : ℕ). w + h ≤ τ.cu + y * τ.D) (sym o.is) (req_ok τ eq pos inv π (w + h)) in
      let up : top_w τ w 0 h (spread τ w 0 h r) ≤ τ.cu = le_trans (plain_top w h r hc) (T-fits τ eq pos (w + h) r v) in
      record {
        good = stack_good w h k (spread τ w 0 h r) (spread_good τ eq pos w 0 h r (omega arith) hc) up;
        count = omega (arith, stack_length (spread τ w 0 h r) k w, spread_length τ eq pos w 0 h r, o.count);
        top = λ z. rw z (le_trans (plain_top w h r hc) o.load);
        topped = λ z. stack_topped w h k (spread τ w 0 h r) z;
      }
