-- One wire put together from its pieces: how many its offsets are, that they are good and what they hand up, and that they are the given and the added ones.
use Prim.Native.Nat.{ℕ, zero, suc, ◌+◌, ◌-◌, ◌*◌, ◌≤◌}
use mathlib.Core.Path.{◌≡◌, refl, subst, ◌∙◌}
use mathlib.Core.List.{List, [], ◌∷◌, ◌++◌, append-nil}
use lib.ListN.{length, length-append, replicate, length-replicate}
use native.Mathlib.Nat.{le_trans}
use native.Mathlib.Omega.{arith}
use Rattle.rules.specs.Load.{hands_up}
use Rattle.rules.specs.Complete.{Joins, given, added}
use Rattle.rules.proofs.Order.{Rising}
use Rattle.rules.proofs.Completing.{all_added_lem}
use Rattle.frontier.specs.Cell.{Cell}
use Rattle.frontier.specs.Plan.{GoodW, top_w}
use Rattle.frontier.specs.Frontier.{ceil, T}
use Rattle.frontier.specs.Spaced.{spread}
use Rattle.frontier.proofs.Lower.{top_w_bound, ceil_ok}
use Rattle.frontier.proofs.Attained.{spread_length, spread_good, spread_top, add_good}
use Rattle.relief.specs.Pieces.{topmost, lead_of, piece, bare, topped, whole_from, added_from}

module _ (τ : Cell) (eq : τ.cu ≡ τ.cb + τ.D) (pos : 1 ≤ τ.D) where
  -- ---- the uppermost piece, and the fewest that serve, from `at` on where b hangs
  unfoldable pub upper : ℕ → ℕ → ℕ → List ℕ → ℕ
  upper w at b [] = (w - at) + b
  upper w at b (g ∷ gs) = upper w g τ.cb gs

  unfoldable pub fewest : ℕ → ℕ → ℕ → List ℕ → ℕ
  fewest w at b [] = ceil τ ((w - at) + b)
  fewest w at b (g ∷ gs) = ceil τ ((g - at) + b) + suc (fewest w g τ.cb gs)

  pub upper_is : (w h : ℕ) (gs : List ℕ) → upper w 0 h gs ≡ piece τ w (lead_of gs) h
  unfolding upper topmost
  upper_is w h [] = omega arith
  upper_is w h (g ∷ gs) = above g gs
    where
      above : (g : ℕ) (gs : List ℕ) → upper w g τ.cb gs ≡ (w - topmost g gs) + τ.cb
      above g [] = refl
      above g (p ∷ gs) = above p gs

  pub T-ceil : (v : ℕ) → T τ v (ceil τ v) ≤ τ.cu
  T-ceil v = go (ceil τ v) refl
    where
      go : (r : ℕ) → ceil τ v ≡ r → T τ v r ≤ τ.cu
      go zero e = omega (arith, subst (λ (r : ℕ). v ≤ τ.cu + r * τ.D) e (ceil_ok τ eq pos v))
      go (suc r) e = omega (arith, subst (λ (r : ℕ). v ≤ τ.cu + r * τ.D) e (ceil_ok τ eq pos v))

  -- ---- how many
  pub whole_many : (w k at b : ℕ) (gs : List ℕ) → length (whole_from τ w k at b gs) ≡ fewest w at b gs + k
  unfolding whole_from fewest
  whole_many w k at b [] = omega (arith, length-append (spread τ w at b (ceil τ ((w - at) + b))) (replicate k w), spread_length τ eq pos w at b (ceil τ ((w - at) + b)), length-replicate {A = ℕ} k w)
  whole_many w k at b (g ∷ gs) = omega (arith, length-append (spread τ g at b (ceil τ ((g - at) + b))) (g ∷ whole_from τ w k g τ.cb gs), spread_length τ eq pos g at b (ceil τ ((g - at) + b)), whole_many w k g τ.cb gs)

  -- ---- good, and what is handed up
  spread_hands : (w at b r : ℕ) → at ≤ w → b ≤ τ.cu → top_w τ w at b (spread τ w at b r) ≡ T τ ((w - at) + b) r
  spread_hands w at b r l h =
      let s = spread τ w at b r in
      let lo : T τ ((w - at) + b) r ≤ top_w τ w at b s = subst (λ (x : ℕ). T τ ((w - at) + b) x ≤ top_w τ w at b s) (spread_length τ eq pos w at b r) (top_w_bound τ eq pos w at b s (spread_good τ eq pos w at b r l h)) in
      omega (arith, spread_top τ eq pos w at b r l h)

  top_last : (w at b : ℕ) (os : List ℕ) → top_w τ w at b (os ++ (w ∷ [])) ≡ τ.cb
  unfolding hands_up
  top_last w at b [] = omega arith
  top_last w at b (o ∷ os) = top_last w o τ.cb os

  good_join : (w g at b : ℕ) (xs ys : List ℕ) → GoodW τ g at b xs → top_w τ g at b xs ≤ τ.cu → GoodW τ w g τ.cb ys → GoodW τ w at b (xs ++ (g ∷ ys))
  unfolding hands_up
  good_join w g at b [] ys h f k = (h, f, k)
  good_join w g at b (x ∷ xs) ys h f k = (h.0, h.1, good_join w g x τ.cb xs ys h.2 f k)

  top_join : (w g at b : ℕ) (xs ys : List ℕ) → top_w τ w at b (xs ++ (g ∷ ys)) ≡ top_w τ w g τ.cb ys
  unfolding hands_up
  top_join w g at b [] ys = refl
  top_join w g at b (x ∷ xs) ys = top_join w g x τ.cb xs ys

  -- the offsets os of a wire of size w from `at` on where b hangs are good and hand up t
  pub record Stand (w at b : ℕ) (os : List ℕ) (t : ℕ) : Type 0 where
    pub good : GoodW τ w at b os
    pub top : top_w τ w at b os ≡ t

  last_stands : (w k at b : ℕ) → at ≤ w → b ≤ τ.cu → k ≤ 1 → Stand w at b (spread τ w at b (ceil τ ((w - at) + b)) ++ replicate k w) (topped τ k (T τ ((w - at) + b) (ceil τ ((w - at) + b))))
  last_stands w zero at b l h few = let r : ℕ = ceil τ ((w - at) + b) in rw (append-nil (spread τ w at b r)) (record { good = spread_good τ eq pos w at b r l h; top = spread_hands w at b r l h })
  last_stands w (suc zero) at b l h few =
      let r : ℕ = ceil τ ((w - at) + b) in
      record { good = add_good τ eq pos w at b (spread τ w at b r) (spread_good τ eq pos w at b r l h) (omega (arith, spread_hands w at b r l h, T-ceil ((w - at) + b))); top = top_last w at b (spread τ w at b r) }
  last_stands w (suc (suc k)) at b l h few = absurd (omega arith)

  whole_stands : (w k at b : ℕ) (gs : List ℕ) → Rising w at gs → b ≤ τ.cu → k ≤ 1 → Stand w at b (whole_from τ w k at b gs) (topped τ k (T τ (upper w at b gs) (ceil τ (upper w at b gs))))
  unfolding whole_from upper
  whole_stands w k at b [] r h few = last_stands w k at b r h few
  whole_stands w k at b (g ∷ gs) r h few =
      let n : ℕ = ceil τ ((g - at) + b) in
      let s = whole_stands w k g τ.cb gs r.1 (omega arith) few in
      record {
        good = good_join w g at b (spread τ g at b n) (whole_from τ w k g τ.cb gs) (spread_good τ eq pos g at b n r.0 h) (le_trans (spread_top τ eq pos g at b n r.0 h) (T-ceil ((g - at) + b))) s.good;
        top = top_join w g at b (spread τ g at b n) (whole_from τ w k g τ.cb gs) ∙ s.top;
      }

  pub stands : (w k h : ℕ) (gs : List ℕ) → Rising w 0 gs → h ≤ τ.cu → k ≤ 1 → Stand w 0 h (whole_from τ w k 0 h gs) (topped τ k (bare τ w (lead_of gs) h))
  stands w k h gs r l few = rw (← upper_is w h gs) (whole_stands w k 0 h gs r l few)

  -- ---- the given and the added
  before : (os : List ℕ) {g a whole : List ℕ} → Joins g a whole → Joins g (os ++ a) (os ++ whole)
  before [] h = h
  before (o ∷ os) h = added (before os h)

  pub whole_joins : (w k at b : ℕ) (gs : List ℕ) → Joins gs (added_from τ w k at b gs) (whole_from τ w k at b gs)
  unfolding whole_from added_from
  whole_joins w k at b [] = all_added_lem (spread τ w at b (ceil τ ((w - at) + b)) ++ replicate k w)
  whole_joins w k at b (g ∷ gs) = before (spread τ g at b (ceil τ ((g - at) + b))) (given (whole_joins w k g τ.cb gs))
