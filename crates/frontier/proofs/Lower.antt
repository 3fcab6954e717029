-- No plan does better than the frontier says: walking up from the sinks, a count and a load of a legal plan are always met by the state there.
use Prim.Native.Nat.{ℕ, zero, suc, ◌+◌, ◌-◌, ◌*◌, ◌%◌, ◌≤◌, ◌<◌, min}
use mathlib.Core.Path.{◌≡◌, refl, subst}
use mathlib.Core.List.{List, [], ◌∷◌}
use lib.ListN.{length}
use native.Mathlib.Nat.{div-add-mod', mod-lt, div-lt_iff_lt-mul, mul-le-mul_right, zero-add}
use native.Mathlib.Omega.{arith}
use Rattle.rules.specs.Tree.{Hanging, none, sink, branch}
use Rattle.rules.specs.Load.{hands_up}
use Rattle.frontier.specs.Cell.{Kind, buf, inv, Cell, turn}
use Rattle.frontier.specs.Plan.{Plan, count, GoodW, top_w, load, Good, Par}
use Rattle.frontier.specs.Frontier.{State, lost, has, Acc, fail, all, ifz, merge_by, merge, width, at_surplus, ceil, req, T, second, cand, via, wire, conv, join, close_at, close, leaf, acc, node}

-- a real count c with the load l is met by the state
pub data Bd (m a b c l : ℕ) : Type 0 where
  at0 : c ≡ m → a ≤ l → Bd m a b c l
  at1 : c ≡ suc m → b ≤ l → Bd m a b c l
  more : suc (suc m) ≤ c → Bd m a b c l

abbrev pub LB : State → ℕ → ℕ → Type 0
LB lost c l = ⊥
LB (has m a b) c l = Bd m a b c l

merge_by_l : (d e m a b m' a' b' c l : ℕ) → m' - m ≡ d → m - m' ≡ e → Bd m a b c l → LB (merge_by d e m a b m' a' b') c l
merge_by_l zero zero m a b m' a' b' c l p q (at0 x y) = at0 x (omega arith)
merge_by_l zero zero m a b m' a' b' c l p q (at1 x y) = at1 x (omega arith)
merge_by_l zero zero m a b m' a' b' c l p q (more x) = more x
merge_by_l zero (suc zero) m a b m' a' b' c l p q (at0 x y) = at1 (omega arith) (omega arith)
merge_by_l zero (suc zero) m a b m' a' b' c l p q (at1 x y) = more (omega arith)
merge_by_l zero (suc zero) m a b m' a' b' c l p q (more x) = more (omega arith)
merge_by_l zero (suc (suc d)) m a b m' a' b' c l p q (at0 x y) = more (omega arith)
merge_by_l zero (suc (suc d)) m a b m' a' b' c l p q (at1 x y) = more (omega arith)
merge_by_l zero (suc (suc d)) m a b m' a' b' c l p q (more x) = more (omega arith)
merge_by_l (suc zero) e m a b m' a' b' c l p q (at0 x y) = at0 x y
merge_by_l (suc zero) e m a b m' a' b' c l p q (at1 x y) = at1 x (omega arith)
merge_by_l (suc zero) e m a b m' a' b' c l p q (more x) = more x
merge_by_l (suc (suc d)) e m a b m' a' b' c l p q h = h

merge_by_r : (d e m a b m' a' b' c l : ℕ) → m' - m ≡ d → m - m' ≡ e → Bd m' a' b' c l → LB (merge_by d e m a b m' a' b') c l
merge_by_r zero zero m a b m' a' b' c l p q (at0 x y) = at0 (omega arith) (omega arith)
merge_by_r zero zero m a b m' a' b' c l p q (at1 x y) = at1 (omega arith) (omega arith)
merge_by_r zero zero m a b m' a' b' c l p q (more x) = more (omega arith)
merge_by_r zero (suc zero) m a b m' a' b' c l p q (at0 x y) = at0 x y
merge_by_r zero (suc zero) m a b m' a' b' c l p q (at1 x y) = at1 x (omega arith)
merge_by_r zero (suc zero) m a b m' a' b' c l p q (more x) = more x
merge_by_r zero (suc (suc d)) m a b m' a' b' c l p q h = h
merge_by_r (suc zero) e m a b m' a' b' c l p q (at0 x y) = at1 (omega arith) (omega arith)
merge_by_r (suc zero) e m a b m' a' b' c l p q (at1 x y) = more (omega arith)
merge_by_r (suc zero) e m a b m' a' b' c l p q (more x) = more (omega arith)
merge_by_r (suc (suc d)) e m a b m' a' b' c l p q (at0 x y) = more (omega arith)
merge_by_r (suc (suc d)) e m a b m' a' b' c l p q (at1 x y) = more (omega arith)
merge_by_r (suc (suc d)) e m a b m' a' b' c l p q (more x) = more (omega arith)

pub merge_l : (s t : State) (c l : ℕ) → LB s c l → LB (merge s t) c l
merge_l lost t c l h = absurd h
merge_l (has m a b) lost c l h = h
merge_l (has m a b) (has m' a' b') c l h = merge_by_l (m' - m) (m - m') m a b m' a' b' c l refl refl h

pub merge_r : (s t : State) (c l : ℕ) → LB t c l → LB (merge s t) c l
merge_r lost t c l h = h
merge_r (has m a b) lost c l h = absurd h
merge_r (has m a b) (has m' a' b') c l h = merge_by_r (m' - m) (m - m') m a b m' a' b' c l refl refl h

-- the state of a node is within the limit, and its second load at most its first
abbrev pub Tidy : Cell → State → Type 0
Tidy τ lost = Unit {0}
Tidy τ (has m a b) = (a ≤ τ.cu) × (b ≤ a)

module _ (τ : Cell) (eq : τ.cu ≡ τ.cb + τ.D) (pos : 1 ≤ τ.D) where
  -- ---- one real wire
  pub T-loads : (v r t : ℕ) → T τ v r ≤ t → v ≤ t + r * τ.D
  T-loads v zero t h = omega arith
  T-loads v (suc r) t h = omega arith

  pub T-mono : (u v r t : ℕ) → u ≤ v → T τ v r ≤ t → T τ u r ≤ t
  T-mono u v zero t h g = omega arith
  T-mono u v (suc r) t h g = omega arith

  T-more : (v r t : ℕ) → 1 ≤ r → τ.cb ≤ t → v ≤ t + r * τ.D → T τ v r ≤ t
  T-more v zero t h g e = omega arith
  T-more v (suc r) t h g e = omega arith

  pub top_w_thick : (w at : ℕ) (os : List ℕ) → τ.cb ≤ top_w τ w at τ.cb os
  unfolding hands_up
  top_w_thick w at [] = omega arith
  top_w_thick w at (o ∷ os) = top_w_thick w o os

  pub top_w_bound : (w at b : ℕ) (os : List ℕ) → GoodW τ w at b os → T τ ((w - at) + b) (length os) ≤ top_w τ w at b os
  unfolding hands_up
  top_w_bound w at b [] g = omega arith
  top_w_bound w at b (o ∷ os) g =
      let l : (w - o) + τ.cb ≤ top_w τ w o τ.cb os + length os * τ.D = T-loads ((w - o) + τ.cb) (length os) (top_w τ w o τ.cb os) (top_w_bound w o τ.cb os g.2) in
      T-more ((w - at) + b) (suc (length os)) (top_w τ w o τ.cb os) (omega arith) (top_w_thick w o os) (omega (arith, g.1))

  -- ---- ceil, req
  pub ceil_ok : (v : ℕ) → v ≤ τ.cu + ceil τ v * τ.D
  unfolding ceil
  ceil_ok v = omega (arith, div-add-mod' ((v - τ.cu) + (τ.D - 1)) τ.D, mod-lt ((v - τ.cu) + (τ.D - 1)) pos)

  pub ceil_least : (v r : ℕ) → v ≤ τ.cu + r * τ.D → ceil τ v ≤ r
  unfolding ceil
  ceil_least v r h =
      let lt : (v - τ.cu) + (τ.D - 1) < suc r * τ.D = omega arith in
      omega (arith, (div-lt_iff_lt-mul pos).1 lt)

  -- as many as are asked for are enough, and then the wire hands up no more than the limit
  pub req_ok : (κ : Kind) (π v : ℕ) → v ≤ τ.cu + req τ κ π v * τ.D
  unfolding req
  req_ok buf π v = ceil_ok v
  req_ok inv π v = omega (arith, ceil_ok v)

  pub T-fits : (v r : ℕ) → v ≤ τ.cu + r * τ.D → T τ v r ≤ τ.cu
  T-fits v zero h = omega arith
  T-fits v (suc r) h = omega arith

  -- ---- a candidate
  abbrev ParOk : Kind → ℕ → ℕ → Type 0
  ParOk buf π r = Unit {0}
  ParOk inv π r = r % 2 ≡ π

  cand_lb : (κ : Kind) (π n v c t r : ℕ) → ParOk κ π r → v ≤ τ.cu + r * τ.D → T τ v r ≤ t → c ≡ n + r → (1 ≤ c → τ.cb ≤ t) → LB (cand τ κ π n v) c t
  unfolding cand req second
  cand_lb buf π n v c t r ok h tt' e thick = go (r - ceil τ v) refl
    where
      least : ceil τ v ≤ r
      least = ceil_least v r h

      go : (d : ℕ) → r - ceil τ v ≡ d → LB (cand τ buf π n v) c t
      go zero q = let q' : r ≡ ceil τ v = omega (arith, least) in at0 (omega arith) (subst (λ (x : ℕ). T τ v x ≤ t) q' tt')
      go (suc zero) q = at1 (omega (arith, least)) (omega (arith, thick (omega arith)))
      go (suc (suc d)) q = more (omega (arith, least))
  cand_lb inv π n v c t r ok h tt' e thick = go (r - (ceil τ v + (ceil τ v + π) % 2)) refl
    where
      least : ceil τ v ≤ r
      least = ceil_least v r h

      go : (d : ℕ) → r - (ceil τ v + (ceil τ v + π) % 2) ≡ d → LB (cand τ inv π n v) c t
      go zero q =
          let q' : r ≡ ceil τ v + (ceil τ v + π) % 2 = omega (arith, least) in
          at0 (omega arith) (subst (λ (x : ℕ). T τ v x ≤ t) q' tt')
      go (suc zero) q = absurd (omega (arith, least))
      go (suc (suc d)) q = more (omega (arith, least))

  par_ok_even : (κ : Kind) (π r j : ℕ) → ParOk κ π r → j % 2 ≡ 0 → ParOk κ π (r + j)
  par_ok_even buf π r j ok e = tt
  par_ok_even inv π r j ok e = omega arith

  -- a surplus below is an even number of entries more on the wire
  cand_more : (κ : Kind) (π w n h c b r t j : ℕ) → ParOk κ π r → j % 2 ≡ 0 → 1 ≤ j → c ≡ n + j → h ≤ τ.cu → τ.cb ≤ b → T τ (w + b) r ≤ t → t ≤ τ.cu → τ.cb ≤ t
      → LB (cand τ κ π n (w + h)) (c + r) t
  cand_more κ π w n h c b r t j ok even j1 e hc cbb tw tc cbt =
      let l : w + b ≤ t + r * τ.D = T-loads (w + b) r t tw in
      let u : w + h ≤ t + (r + j) * τ.D = omega (arith, mul-le-mul_right τ.D j1) in
      cand_lb κ π n (w + h) (c + r) t (r + j) (par_ok_even κ π r j ok even) (omega arith) (T-more (w + h) (r + j) t (omega arith) cbt u) (omega arith) (λ x. cbt)

  via_lb : (κ : Kind) (π w n h₀ h₁ c b r t : ℕ) → ParOk κ π r → Bd n h₀ h₁ c b → h₀ ≤ τ.cu → h₁ ≤ h₀ → (1 ≤ c → τ.cb ≤ b) → T τ (w + b) r ≤ t → t ≤ τ.cu → (1 ≤ c + r → τ.cb ≤ t)
      → LB (via τ κ π w (has n h₀ h₁)) (c + r) t
  unfolding via
  via_lb κ π w n h₀ h₁ c b r t ok (at0 x y) hc hh thb tw tc tht =
      let l : w + b ≤ t + r * τ.D = T-loads (w + b) r t tw in
      merge_l (cand τ κ π n (w + h₀)) (cand τ κ π (suc n) (w + h₁)) (c + r) t
      (cand_lb κ π n (w + h₀) (c + r) t r ok (omega arith) (T-mono (w + h₀) (w + b) r t (omega arith) tw) (omega arith) tht)
  via_lb κ π w n h₀ h₁ c b r t ok (at1 x y) hc hh thb tw tc tht =
      let l : w + b ≤ t + r * τ.D = T-loads (w + b) r t tw in
      merge_r (cand τ κ π n (w + h₀)) (cand τ κ π (suc n) (w + h₁)) (c + r) t
      (cand_lb κ π (suc n) (w + h₁) (c + r) t r ok (omega arith) (T-mono (w + h₁) (w + b) r t (omega arith) tw) (omega arith) tht)
  via_lb κ π w n h₀ h₁ c b r t ok (more x) hc hh thb tw tc tht = go ((c - n) % 2) refl
    where
      go : (z : ℕ) → (c - n) % 2 ≡ z → LB (merge (cand τ κ π n (w + h₀)) (cand τ κ π (suc n) (w + h₁))) (c + r) t
      go zero e =
          merge_l (cand τ κ π n (w + h₀)) (cand τ κ π (suc n) (w + h₁)) (c + r) t
          (cand_more κ π w n h₀ c b r t (c - n) ok e (omega arith) (omega arith) hc (thb (omega arith)) tw tc (tht (omega arith)))
      go (suc z) e =
          merge_r (cand τ κ π n (w + h₀)) (cand τ κ π (suc n) (w + h₁)) (c + r) t
          (cand_more κ π w (suc n) h₁ c b r t (c - suc n) ok (omega arith) (omega arith) (omega arith) (omega arith) (thb (omega arith)) tw tc (tht (omega arith)))

  via_lb' : (κ : Kind) (π w : ℕ) (s : State) (c b r t : ℕ) → ParOk κ π r → LB s c b → Tidy τ s → (1 ≤ c → τ.cb ≤ b) → T τ (w + b) r ≤ t → t ≤ τ.cu → (1 ≤ c + r → τ.cb ≤ t)
      → LB (via τ κ π w s) (c + r) t
  via_lb' κ π w lost c b r t ok lb tidy thb tw tc tht = absurd lb
  via_lb' κ π w (has n h₀ h₁) c b r t ok lb tidy thb tw tc tht = via_lb κ π w n h₀ h₁ c b r t ok lb tidy.0 tidy.1 thb tw tc tht

  wire_lb : (κ : Kind) (w : ℕ) (nd : ℕ → State) (p c b r t : ℕ) → LB (nd (turn κ p r)) c b → ((q : ℕ) → Tidy τ (nd q)) → (1 ≤ c → τ.cb ≤ b) → T τ (w + b) r ≤ t → t ≤ τ.cu → (1 ≤ c + r → τ.cb ≤ t)
      → LB (wire τ κ w nd p) (c + r) t
  unfolding wire
  wire_lb buf w nd p c b r t lb tidy thb tw tc tht = via_lb' buf 0 w (nd p) c b r t tt lb (tidy p) thb tw tc tht
  wire_lb inv w nd p c b r t lb tidy thb tw tc tht = go (r % 2) refl
    where
      go : (z : ℕ) → r % 2 ≡ z → LB (merge (via τ inv 0 w (nd ((p + 0) % 2))) (via τ inv 1 w (nd ((p + 1) % 2)))) (c + r) t
      go zero e =
          let e' : (p + r) % 2 ≡ (p + 0) % 2 = omega arith in
          merge_l (via τ inv 0 w (nd ((p + 0) % 2))) (via τ inv 1 w (nd ((p + 1) % 2))) (c + r) t
          (via_lb' inv 0 w (nd ((p + 0) % 2)) c b r t e (subst (λ (q : ℕ). LB (nd q) c b) e' lb) (tidy ((p + 0) % 2)) thb tw tc tht)
      go (suc z) e =
          let e' : (p + r) % 2 ≡ (p + 1) % 2 = omega arith in
          merge_r (via τ inv 0 w (nd ((p + 0) % 2))) (via τ inv 1 w (nd ((p + 1) % 2))) (c + r) t
          (via_lb' inv 1 w (nd ((p + 1) % 2)) c b r t (omega arith) (subst (λ (q : ℕ). LB (nd q) c b) e' lb) (tidy ((p + 1) % 2)) thb tw tc tht)

  -- ---- the wires under one point
  abbrev AccLB : Acc → ℕ → ℕ → ℕ → Type 0
  AccLB fail n c l = ⊥
  AccLB (all m g) n c l = (e : ℕ) × (e ≤ n) × (m + e ≤ c) × (g e ≤ l)

  conv_0 : (a b : ℕ) (g : ℕ → ℕ) (e : ℕ) → conv τ a b g e ≤ a + g e
  unfolding conv
  conv_0 a b g zero = omega arith
  conv_0 a b g (suc zero) = omega arith
  conv_0 a b g (suc (suc e)) = omega arith

  conv_1 : (a b : ℕ) (g : ℕ → ℕ) (e : ℕ) → conv τ a b g (suc e) ≤ b + g e
  unfolding conv
  conv_1 a b g zero = omega arith
  conv_1 a b g (suc e) = omega arith

  conv_2 : (a b : ℕ) (g : ℕ → ℕ) (e : ℕ) → conv τ a b g (suc (suc e)) ≤ min a τ.cb + g e
  unfolding conv
  conv_2 a b g e = omega arith

  join_lb : (s : State) (x : Acc) (n c c' t l : ℕ) → LB s c t → (1 ≤ c → τ.cb ≤ t) → AccLB x (2 * n) c' l → AccLB (join τ s x) (2 * suc n) (c + c') (t + l)
  unfolding join
  join_lb lost x n c c' t l h th r = absurd h
  join_lb (has m a b) fail n c c' t l h th r = absurd r
  join_lb (has m a b) (all m' g) n c c' t l (at0 x y) th (e, i, j, v) = (e, omega arith, omega arith, omega (arith, conv_0 a b g e))
  join_lb (has m a b) (all m' g) n c c' t l (at1 x y) th (e, i, j, v) = (suc e, omega arith, omega arith, omega (arith, conv_1 a b g e))
  join_lb (has m a b) (all m' g) n c c' t l (more x) th (e, i, j, v) = (suc (suc e), omega arith, omega arith, omega (arith, conv_2 a b g e, th (omega arith)))

  fit_lb : (m e : ℕ) (g : ℕ → ℕ) (c l e' : ℕ) → e ≤ e' → m + e' ≤ c → g e' ≤ l → LB (at_surplus m e g) c l
  fit_lb m e g c l e' h i v = go (c - (m + e)) (e' - e) refl refl
    where
      go : (z d : ℕ) → c - (m + e) ≡ z → e' - e ≡ d → LB (at_surplus m e g) c l
      go zero d q j = let x : e' ≡ e = omega arith in at0 (omega arith) (subst (λ (y : ℕ). g y ≤ l) x v)
      go (suc zero) zero q j =
          let x : e' ≡ e = omega arith in
          let v' : g e ≤ l = subst (λ (y : ℕ). g y ≤ l) x v in
          at1 (omega arith) (omega arith)
      go (suc zero) (suc d) q j =
          let x : e' ≡ suc e = omega arith in
          let v' : g (suc e) ≤ l = subst (λ (y : ℕ). g y ≤ l) x v in
          at1 (omega arith) (omega arith)
      go (suc (suc z)) d q j = more (omega arith)

  step_lb : (m e : ℕ) (g : ℕ → ℕ) (c l e' : ℕ) (rest : State) → e ≤ e' → m + e' ≤ c → g e' ≤ l → l ≤ τ.cu → (suc e ≤ e' → LB rest c l) → (z d : ℕ) → g e - τ.cu ≡ z → e' - e ≡ d
      → LB (ifz z (at_surplus m e g) rest) c l
  step_lb m e g c l e' rest h i v lc ih zero d q j = fit_lb m e g c l e' h i v
  step_lb m e g c l e' rest h i v lc ih (suc z) zero q j =
      let x : e' ≡ e = omega arith in
      let v' : g e ≤ l = subst (λ (y : ℕ). g y ≤ l) x v in
      absurd (omega arith)
  step_lb m e g c l e' rest h i v lc ih (suc z) (suc d) q j = ih (omega arith)

  close_at_lb : (n m e : ℕ) (g : ℕ → ℕ) (c l e' : ℕ) → e ≤ e' → e' ≤ e + n → m + e' ≤ c → g e' ≤ l → l ≤ τ.cu → LB (close_at τ n m e g) c l
  unfolding close_at
  close_at_lb zero m e g c l e' h h' i v lc = step_lb m e g c l e' lost h i v lc (λ x. omega arith) (g e - τ.cu) (e' - e) refl refl
  close_at_lb (suc n) m e g c l e' h h' i v lc =
      step_lb m e g c l e' (close_at τ n m (suc e) g) h i v lc (λ x. close_at_lb n m (suc e) g c l e' x (omega arith) i v lc) (g e - τ.cu) (e' - e) refl refl

  close_lb : (n : ℕ) (x : Acc) (c l : ℕ) → AccLB x n c l → l ≤ τ.cu → LB (close τ n x) c l
  unfolding close
  close_lb n fail c l r lc = r
  close_lb n (all m g) c l (e, i, j, v) lc = close_at_lb n m 0 g c l e (omega arith) (omega arith) j v lc

  ifz_tidy : (z a c : ℕ) (s t : State) → a - c ≡ z → (a ≤ c → Tidy τ s) → Tidy τ t → Tidy τ (ifz z s t)
  ifz_tidy zero a c s t q f g = f (omega arith)
  ifz_tidy (suc z) a c s t q f g = g

  close_at_tidy : (n m e : ℕ) (g : ℕ → ℕ) → Tidy τ (close_at τ n m e g)
  unfolding close_at
  close_at_tidy zero m e g = ifz_tidy (g e - τ.cu) (g e) τ.cu (at_surplus m e g) lost refl (λ x. (x, omega arith)) tt
  close_at_tidy (suc n) m e g =
      ifz_tidy (g e - τ.cu) (g e) τ.cu (at_surplus m e g) (close_at τ n m (suc e) g) refl (λ x. (x, omega arith)) (close_at_tidy n m (suc e) g)

  pub close_tidy : (n : ℕ) (x : Acc) → Tidy τ (close τ n x)
  unfolding close
  close_tidy n fail = tt
  close_tidy n (all m g) = close_at_tidy n m 0 g

  pub leaf_tidy : (c s q : ℕ) → Tidy τ (leaf τ c s q)
  unfolding leaf
  leaf_tidy c s q = ifz_tidy ((q - s) + (s - q)) ((q - s) + (s - q)) 0 (ifz (c - τ.cu) (has 0 c c) lost) lost (omega arith)
      (λ x. ifz_tidy (c - τ.cu) c τ.cu (has 0 c c) lost refl (λ y. (y, omega arith)) tt) tt

  leaf_lb : (c s q : ℕ) → c ≤ τ.cu → q ≡ s → LB (leaf τ c s q) 0 c
  unfolding leaf
  leaf_lb c s q h e = rw (z₁, z₂) (at0 refl (omega arith))
    where
      z₁ : (q - s) + (s - q) ≡ 0
      z₁ = omega arith

      z₂ : c - τ.cu ≡ 0
      z₂ = omega arith

  -- ---- the whole
  pub below_fits : (w b : ℕ) (os : List ℕ) → GoodW τ w 0 b os → top_w τ w 0 b os ≤ τ.cu → b ≤ τ.cu
  unfolding hands_up
  below_fits w b [] g h = omega arith
  below_fits w b (o ∷ os) g h = omega (arith, g.1)

  pub wire_thick : (w b c : ℕ) (os : List ℕ) → (1 ≤ c → τ.cb ≤ b) → 1 ≤ c + length os → τ.cb ≤ top_w τ w 0 b os
  unfolding hands_up
  wire_thick w b c [] th h = omega (arith, th (omega arith))
  wire_thick w b c (o ∷ os) th h = top_w_thick w o os

  both_thick : (c c' t l : ℕ) → (1 ≤ c → τ.cb ≤ t) → (1 ≤ c' → τ.cb ≤ l) → 1 ≤ c + c' → τ.cb ≤ t + l
  both_thick zero c' t l f g h = omega (arith, g (omega arith))
  both_thick (suc c) c' t l f g h = omega (arith, f (omega arith))

  pub thick : (f : Hanging) (pl : Plan f) → 1 ≤ count f pl → τ.cb ≤ load τ f pl
  thick none pl h = omega arith
  thick (sink i w c s r) pl h =
      both_thick (length pl.0) (count r pl.1) (top_w τ w 0 c pl.0) (load τ r pl.1) (λ x. wire_thick w c 0 pl.0 (λ y. omega arith) (omega arith)) (thick r pl.1) h
  thick (branch i w f r) pl h =
      both_thick (count f pl.1 + length pl.0) (count r pl.2) (top_w τ w 0 (load τ f pl.1) pl.0) (load τ r pl.2)
      (wire_thick w (load τ f pl.1) (count f pl.1) pl.0 (thick f pl.1)) (thick r pl.2) h

  hang_lb : (w : ℕ) (nd : ℕ → State) (x : Acc) (n p c b c' l : ℕ) (os : List ℕ) → LB (nd (turn τ.kind p (length os))) c b → ((q : ℕ) → Tidy τ (nd q)) → (1 ≤ c → τ.cb ≤ b)
      → GoodW τ w 0 b os → top_w τ w 0 b os + l ≤ τ.cu → AccLB x (2 * n) c' l → AccLB (join τ (wire τ τ.kind w nd p) x) (2 * suc n) ((c + length os) + c') (top_w τ w 0 b os + l)
  hang_lb w nd x n p c b c' l os lb tidy th g h r =
      let th' : 1 ≤ c + length os → τ.cb ≤ top_w τ w 0 b os = wire_thick w b c os th in
      let tw : T τ (w + b) (length os) ≤ top_w τ w 0 b os = T-mono (w + b) ((w - 0) + b) (length os) (top_w τ w 0 b os) (omega arith) (top_w_bound w 0 b os g) in
      join_lb (wire τ τ.kind w nd p) x n (c + length os) c' (top_w τ w 0 b os) l (wire_lb τ.kind w nd p c b (length os) (top_w τ w 0 b os) lb tidy th tw (omega arith) th') th' r

  lower : (f : Hanging) (pl : Plan f) (p : ℕ) → Good τ f pl → load τ f pl ≤ τ.cu → Par τ p f pl → AccLB (acc τ f p) (2 * width f) (count f pl) (load τ f pl)
  unfolding acc
  lower none pl p g h q = (0, omega arith, omega arith, omega arith)
  lower (sink i w c s r) pl p g h q =
      rw zero-add at (hang_lb w (leaf τ c s) (acc τ r p) (width r) p 0 c (count r pl.1) (load τ r pl.1) pl.0
      (leaf_lb c s (turn τ.kind p (length pl.0)) (below_fits w c pl.0 g.0 (omega arith)) q.0) (leaf_tidy c s) (λ x. omega arith) g.0 h
      (lower r pl.1 p g.1 (omega arith) q.1))
  lower (branch i w f r) pl p g h q =
      let fits : load τ f pl.1 ≤ τ.cu = below_fits w (load τ f pl.1) pl.0 g.0 (omega arith) in
      hang_lb w (λ q. close τ (2 * width f) (acc τ f q)) (acc τ r p) (width r) p (count f pl.1) (load τ f pl.1) (count r pl.2) (load τ r pl.2) pl.0
      (close_lb (2 * width f) (acc τ f (turn τ.kind p (length pl.0))) (count f pl.1) (load τ f pl.1) (lower f pl.1 (turn τ.kind p (length pl.0)) g.1 fits q.0) fits)
      (λ q. close_tidy (2 * width f) (acc τ f q)) (thick f pl.1) g.0 h
      (lower r pl.2 p g.2 (omega arith) q.1)

  -- the node's state is met by every placement
  pub lower_node : (f : Hanging) (pl : Plan f) (p : ℕ) → Good τ f pl → load τ f pl ≤ τ.cu → Par τ p f pl → LB (node τ f p) (count f pl) (load τ f pl)
  lower_node f pl p g h q = close_lb (2 * width f) (acc τ f p) (count f pl) (load τ f pl) (lower f pl p g h q) h
