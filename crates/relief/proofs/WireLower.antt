-- One wire: no offsets that keep the given ones serve with fewer, or hand up less with as many.
use Prim.Native.Nat.{ℕ, zero, suc, ◌+◌, ◌-◌, ◌*◌, ◌≤◌, ◌<◌}
use mathlib.Core.Path.{◌≡◌, refl, sym, subst}
use mathlib.Core.List.{List, [], ◌∷◌}
use lib.ListN.{length}
use native.Mathlib.Nat.{mul-le-mul_right}
use native.Mathlib.Omega.{arith}
use Rattle.rules.specs.Load.{hands_up}
use Rattle.rules.specs.Complete.{Joins, given, added}
use Rattle.frontier.specs.Cell.{Cell}
use Rattle.frontier.specs.Plan.{GoodW, top_w}
use Rattle.frontier.specs.Frontier.{ceil, T}
use Rattle.frontier.proofs.Lower.{T-loads, top_w_bound, ceil_least}
use Rattle.relief.specs.Pieces.{lead_of, bare}
use Rattle.relief.proofs.Pieces.{upper, fewest, upper_is}

-- n buffers with the load h are no worse than c with l
pub record NoWorse (τ : Cell) (n h c l : ℕ) : Type 0 where
  pub few : n ≤ c
  pub light : h + n * τ.D ≤ l + c * τ.D

module _ (τ : Cell) (eq : τ.cu ≡ τ.cb + τ.D) (pos : 1 ≤ τ.D) where
  -- ---- by spacing every buffer takes a whole span off
  ceil_tight : (v r : ℕ) → ceil τ v ≡ suc r → τ.cu + r * τ.D < v
  ceil_tight v r e = go (v - (τ.cu + r * τ.D)) refl
    where
      go : (d : ℕ) → v - (τ.cu + r * τ.D) ≡ d → τ.cu + r * τ.D < v
      go zero q = absurd (omega (arith, ceil_least τ eq pos v r (omega arith)))
      go (suc d) q = omega arith

  pub T-whole : (v : ℕ) → T τ v (ceil τ v) + ceil τ v * τ.D ≡ v
  T-whole v = go (ceil τ v) refl
    where
      go : (r : ℕ) → ceil τ v ≡ r → T τ v r + r * τ.D ≡ v
      go zero e = omega arith
      go (suc r) e = omega (arith, ceil_tight v r e)

  -- as many as are more below may be fewer on the wire
  ceil_over : (v n c : ℕ) → n ≤ c → v + n * τ.D ≤ τ.cu + c * τ.D → n + ceil τ v ≤ c
  ceil_over v n c h g =
      let d : ℕ = c - n in
      let e : c ≡ n + d = omega arith in
      let g' : v + n * τ.D ≤ τ.cu + (n + d) * τ.D = subst (λ (x : ℕ). v + n * τ.D ≤ τ.cu + x * τ.D) e g in
      omega (arith, ceil_least τ eq pos v d (omega arith))

  same_pin : (n c : ℕ) → n ≤ c → NoWorse τ n τ.cb c τ.cb
  same_pin n c h = record { few = h; light = omega (arith, mul-le-mul_right τ.D h) }

  -- ---- other offsets os at the first given one: k below it, ys above it
  record Split (w at b g : ℕ) (gs os : List ℕ) : Type 0 where
    k : ℕ
    rs : List ℕ
    ys : List ℕ
    many : length os ≡ k + suc (length ys)
    low : (g - at) + b ≤ τ.cu + k * τ.D
    good : GoodW τ w g τ.cb ys
    top : top_w τ w g τ.cb ys ≡ top_w τ w at b os
    keeps : Joins gs rs ys

  split : (w at b g : ℕ) (gs : List ℕ) {rs : List ℕ} (os : List ℕ) → Joins (g ∷ gs) rs os → GoodW τ w at b os → Split w at b g gs os
  unfolding hands_up
  split w at b g gs {rs = rs} [] x good = elim x [ ]
  split w at b g gs (o ∷ os) (given {a = rs} h) good = record { k = 0; rs = rs; ys = os; many = omega arith; low = omega (arith, good.1); good = good.2; top = refl; keeps = h }
  split w at b g gs (o ∷ os) (added h) good =
      let s = split w o τ.cb g gs os h good.2 in
      record { k = suc s.k; rs = s.rs; ys = s.ys; many = omega (arith, s.many); low = omega (arith, good.0, good.1, s.low); good = s.good; top = s.top; keeps = s.keeps }

  -- ---- piece after piece
  pieces : (w at n h c l : ℕ) (gs : List ℕ) {rs : List ℕ} (os : List ℕ) → NoWorse τ n h c l → Joins gs rs os → GoodW τ w at l os → top_w τ w at l os ≤ τ.cu
      → NoWorse τ (n + fewest τ eq pos w at h gs) (T τ (upper τ eq pos w at h gs) (ceil τ (upper τ eq pos w at h gs))) (c + length os) (top_w τ w at l os)
  unfolding fewest upper
  pieces w at n h c l [] os le keeps good fits =
      let v : ℕ = (w - at) + h in
      let b : (w - at) + l ≤ top_w τ w at l os + length os * τ.D = T-loads τ eq pos ((w - at) + l) (length os) (top_w τ w at l os) (top_w_bound τ eq pos w at l os good) in
      record { few = ceil_over v n (c + length os) (omega (arith, le.few)) (omega (arith, le.light)); light = omega (arith, T-whole v, le.light) }
  pieces w at n h c l (g ∷ gs) os le keeps good fits =
      let s = split w at l g gs os keeps good in
      let v : ℕ = (g - at) + h in
      let few : n + ceil τ v ≤ c + s.k = ceil_over v n (c + s.k) (omega (arith, le.few)) (omega (arith, le.light, s.low)) in
      let r = pieces w g (suc (n + ceil τ v)) τ.cb (suc (c + s.k)) τ.cb gs s.ys (same_pin (suc (n + ceil τ v)) (suc (c + s.k)) (omega arith)) s.keeps s.good (subst (λ (t : ℕ). t ≤ τ.cu) (sym s.top) fits) in
      let e : c + length os ≡ suc (c + s.k) + length s.ys = omega (arith, s.many) in
      rw e (record { few = omega (arith, r.few); light = omega (arith, r.light, s.top) })

  pub wire_lower : (w n h c l : ℕ) (gs : List ℕ) {rs : List ℕ} (os : List ℕ) → NoWorse τ n h c l → Joins gs rs os → GoodW τ w 0 l os → top_w τ w 0 l os ≤ τ.cu
      → NoWorse τ (n + fewest τ eq pos w 0 h gs) (bare τ w (lead_of gs) h) (c + length os) (top_w τ w 0 l os)
  wire_lower w n h c l gs os le keeps good fits = rw (← upper_is τ eq pos w h gs) (pieces w 0 n h c l gs os le keeps good fits)
