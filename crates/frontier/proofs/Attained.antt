-- What the frontier says is reached: for each state there is a plan with at most that count and at most that load, put together wire by wire.
use Prim.Native.Nat.{ℕ, zero, suc, ◌+◌, ◌-◌, ◌*◌, ◌%◌, ◌≤◌, min, max}
use mathlib.Core.Path.{◌≡◌, refl, sym, subst, ap, ◌∙◌}
use mathlib.Core.List.{List, [], ◌∷◌, ◌++◌}
use lib.ListN.{length, length-append}
use native.Mathlib.Nat.{le_trans, le_refl}
use native.Mathlib.Omega.{arith, min_cases}
use Rattle.rules.specs.Tree.{Hanging, none, sink, branch}
use Rattle.rules.specs.Load.{hands_up}
use Rattle.frontier.specs.Cell.{Kind, buf, inv, Cell, turn}
use Rattle.frontier.specs.Plan.{Plan, count, GoodW, top_w, load, Good, Par}
use Rattle.frontier.specs.Spaced.{spread, steps}
use Rattle.frontier.specs.Frontier.{State, lost, has, Acc, fail, all, ifz, merge_by, merge, width, at_surplus, req, T, second, cand, via, wire, conv, join, close_at, close, leaf, acc, node}
use Rattle.frontier.proofs.Lower.{T-mono, req_ok, T-fits, Tidy, close_tidy, leaf_tidy}

-- a state is attained by a family Y of counts and loads that is closed upwards
abbrev pub SAtt : (ℕ → ℕ → Type 0) → State → Type 0
SAtt Y lost = Unit {0}
SAtt Y (has m a b) = Y m a × Y (suc m) b

abbrev pub Up : (ℕ → ℕ → Type 0) → Type 0
Up Y = (c c' l l' : ℕ) → c ≤ c' → l ≤ l' → Y c l → Y c' l'

pub pick : (Y : ℕ → ℕ → Type 0) (c a b : ℕ) → Y c a → Y c b → Y c (min a b)
pick Y c a b x y = min_cases a b (Y c (min a b)) (λ h e. subst (Y c) (sym e) x) (λ h e. subst (Y c) (sym e) y)

pub merge_att : (Y : ℕ → ℕ → Type 0) → Up Y → (s t : State) → SAtt Y s → SAtt Y t → SAtt Y (merge s t)
merge_att Y up lost t x y = y
merge_att Y up (has m a b) lost x y = x
merge_att Y up (has m a b) (has m' a' b') x y = go (m' - m) (m - m') refl refl
  where
    go : (d e : ℕ) → m' - m ≡ d → m - m' ≡ e → SAtt Y (merge_by d e m a b m' a' b')
    go zero zero p q = (
      pick Y m a a' x.0 (up m' m a' a' (omega arith) (omega arith) y.0),
      pick Y (suc m) b b' x.1 (up (suc m') (suc m) b' b' (omega arith) (omega arith) y.1),
    )
    go zero (suc zero) p q = (y.0, pick Y (suc m') b' a y.1 (up m (suc m') a a (omega arith) (omega arith) x.0))
    go zero (suc (suc d)) p q = y
    go (suc zero) e p q = (x.0, pick Y (suc m) b a' x.1 (up m' (suc m) a' a' (omega arith) (omega arith) y.0))
    go (suc (suc d)) e p q = x

-- with a span between each and the next
pub spread_steps : (τ : Cell) → τ.cu ≡ τ.cb + τ.D → (w at b r : ℕ) → spread τ w at b r ≡ steps w τ.D (min w (at + (τ.cu - b))) r
unfolding spread steps
spread_steps τ eq w at b zero = refl
spread_steps τ eq w at b (suc r) =
    let o : ℕ = min w (at + (τ.cu - b)) in
    let d : τ.cu - τ.cb ≡ τ.D = omega arith in
    ap (λ (os : List ℕ). o ∷ os) (spread_steps τ eq w o τ.cb r ∙ ap (λ (x : ℕ). steps w τ.D (min w (o + x)) r) d)

-- less below is no harder
pub GoodW-mono : (τ : Cell) (w at b b' : ℕ) (os : List ℕ) → b' ≤ b → GoodW τ w at b os → GoodW τ w at b' os
GoodW-mono τ w at b b' [] h g = g
GoodW-mono τ w at b b' (o ∷ os) h g = (g.0, omega (arith, g.1), g.2)

pub top_w_mono : (τ : Cell) (w at b b' : ℕ) (os : List ℕ) → b' ≤ b → top_w τ w at b' os ≤ top_w τ w at b os
unfolding hands_up
top_w_mono τ w at b b' [] h = omega arith
top_w_mono τ w at b b' (o ∷ os) h = omega arith

-- a wire over what X gives: polarity, count and load at its lower end
pub record WAtt (τ : Cell) (X : ℕ → ℕ → ℕ → Type 0) (κ : Kind) (w p c t : ℕ) : Type 0 where
  pub os : List ℕ
  pub c₀ : ℕ
  pub b : ℕ
  pub under : X (turn κ p (length os)) c₀ b
  pub good : GoodW τ w 0 b os
  pub cnt : c₀ + length os ≤ c
  pub top : top_w τ w 0 b os ≤ t
  pub fits : top_w τ w 0 b os ≤ τ.cu

-- what a sink gives a wire
pub record LAtt (pin s q c b : ℕ) : Type 0 where
  pub pol : q ≡ s
  pub top : pin ≤ b

-- a placement with at most c repeaters and the load l
pub record PAtt (τ : Cell) (f : Hanging) (p c l : ℕ) : Type 0 where
  pub plan : Plan f
  pub good : Good τ f plan
  pub par : Par τ p f plan
  pub cnt : count f plan ≤ c
  pub top : load τ f plan ≤ l

module _ (τ : Cell) (eq : τ.cu ≡ τ.cb + τ.D) (pos : 1 ≤ τ.D) where
  -- ---- offsets for a wire
  pub spread_length : (w at b r : ℕ) → length (spread τ w at b r) ≡ r
  unfolding spread
  spread_length w at b zero = refl
  spread_length w at b (suc r) = ap suc (spread_length w (min w (at + (τ.cu - b))) τ.cb r)

  pub spread_good : (w at b r : ℕ) → at ≤ w → b ≤ τ.cu → GoodW τ w at b (spread τ w at b r)
  unfolding spread
  spread_good w at b zero h g = h
  spread_good w at b (suc r) h g = (omega arith, omega arith, spread_good w (min w (at + (τ.cu - b))) τ.cb r (omega arith) (omega arith))

  max_step : (u v x y t : ℕ) → u ≤ max τ.cb (v - τ.D) → t ≤ max τ.cb (u - x) → y ≡ τ.D + x → t ≤ max τ.cb (v - y)
  max_step u v x y t h g e = omega arith

  spread_step : (w at b : ℕ) → at ≤ w → b ≤ τ.cu → (w - min w (at + (τ.cu - b))) + τ.cb ≤ max τ.cb (((w - at) + b) - τ.D)
  spread_step w at b h g = omega arith

  spread_cb : (w at r : ℕ) → at ≤ w → top_w τ w at τ.cb (spread τ w at τ.cb r) ≤ max τ.cb (((w - at) + τ.cb) - r * τ.D)
  unfolding spread hands_up
  spread_cb w at zero h = omega arith
  spread_cb w at (suc r) h =
      max_step ((w - min w (at + (τ.cu - τ.cb))) + τ.cb) ((w - at) + τ.cb) (r * τ.D) (suc r * τ.D) _ (spread_step w at τ.cb h (omega arith))
      (spread_cb w (min w (at + (τ.cu - τ.cb))) r (omega arith)) (omega arith)

  pub spread_top : (w at b r : ℕ) → at ≤ w → b ≤ τ.cu → top_w τ w at b (spread τ w at b r) ≤ T τ ((w - at) + b) r
  unfolding spread hands_up
  spread_top w at b zero h g = omega arith
  spread_top w at b (suc r) h g =
      max_step ((w - min w (at + (τ.cu - b))) + τ.cb) ((w - at) + b) (r * τ.D) (suc r * τ.D) _ (spread_step w at b h g)
      (spread_cb w (min w (at + (τ.cu - b))) r (omega arith)) (omega arith)

  -- one more at the upper end
  pub add_good : (w at b : ℕ) (os : List ℕ) → GoodW τ w at b os → top_w τ w at b os ≤ τ.cu → GoodW τ w at b (os ++ (w ∷ []))
  unfolding hands_up
  add_good w at b [] g h = (g, h, omega arith)
  add_good w at b (o ∷ os) g h = (g.0, g.1, add_good w o τ.cb os g.2 h)

  pub add_top : (w at b : ℕ) (os : List ℕ) → top_w τ w at b (os ++ (w ∷ [])) ≤ τ.cb
  unfolding hands_up
  add_top w at b [] = omega arith
  add_top w at b (o ∷ os) = add_top w o τ.cb os

  module _ (X : ℕ → ℕ → ℕ → Type 0) where
    watt_up : (κ : Kind) (w p : ℕ) → Up (WAtt τ X κ w p)
    watt_up κ w p c c' l l' h g a = record { os = a.os; c₀ = a.c₀; b = a.b; under = a.under; good = a.good; cnt = omega (arith, a.cnt); top = omega (arith, a.top); fits = a.fits }

    -- one more repeater at the upper end
    watt_add : (κ : Kind) (w p p' c t : ℕ) → ((n : ℕ) → turn κ p n ≡ turn κ p' (suc n)) → WAtt τ X κ w p c t → WAtt τ X κ w p' (suc c) τ.cb
    watt_add κ w p p' c t e a =
        let len : length (a.os ++ (w ∷ [])) ≡ suc (length a.os) = omega (arith, length-append a.os (w ∷ [])) in
        record {
          os = a.os ++ (w ∷ []);
          c₀ = a.c₀;
          b = a.b;
          under = subst (λ (n : ℕ). X (turn κ p' n) a.c₀ a.b) (sym len) (subst (λ (q : ℕ). X q a.c₀ a.b) (e (length a.os)) a.under);
          good = add_good w 0 a.b a.os a.good a.fits;
          cnt = omega (arith, a.cnt);
          top = add_top w 0 a.b a.os;
          fits = omega (arith, add_top w 0 a.b a.os);
        }

    watt_two : (κ : Kind) (w p c t : ℕ) → WAtt τ X κ w p c t → WAtt τ X κ w p (suc (suc c)) τ.cb
    watt_two buf w p c t a = watt_up buf w p (suc c) (suc (suc c)) τ.cb τ.cb (omega arith) (omega arith) (watt_add buf w p p c t (λ n. refl) a)
    watt_two inv w p c t a = watt_add inv w (suc p) p (suc c) τ.cb (λ n. omega arith) (watt_add inv w p (suc p) c t (λ n. omega arith) a)

    base_att : (κ : Kind) (w n h p r : ℕ) → X (turn κ p r) n h → h ≤ τ.cu → w + h ≤ τ.cu + r * τ.D → WAtt τ X κ w p (n + r) (T τ (w + h) r)
    base_att κ w n h p r x hc v =
        let len : length (spread τ w 0 h r) ≡ r = spread_length w 0 h r in
        let up : top_w τ w 0 h (spread τ w 0 h r) ≤ T τ (w + h) r = le_trans (spread_top w 0 h r (omega arith) hc) (T-mono τ eq pos ((w - 0) + h) (w + h) r (T τ (w + h) r) (omega arith) (le_refl (T τ (w + h) r))) in
        record {
          os = spread τ w 0 h r;
          c₀ = n;
          b = h;
          under = subst (λ (m : ℕ). X (turn κ p m) n h) (sym len) x;
          good = spread_good w 0 h r (omega arith) hc;
          cnt = omega arith;
          top = up;
          fits = le_trans up (T-fits τ eq pos (w + h) r v);
        }

    cand_att : (κ : Kind) (π w n h p : ℕ) → X (turn κ p (req τ κ π (w + h))) n h → h ≤ τ.cu → SAtt (WAtt τ X κ w p) (cand τ κ π n (w + h))
    unfolding cand second
    cand_att buf π w n h p x hc =
        let r : ℕ = req τ buf π (w + h) in
        let base : WAtt τ X buf w p (n + r) (T τ (w + h) r) = base_att buf w n h p r x hc (req_ok τ eq pos buf π (w + h)) in (
          base,
          pick (WAtt τ X buf w p) (suc (n + r)) (T τ (w + h) r) τ.cb (watt_up buf w p (n + r) (suc (n + r)) (T τ (w + h) r) (T τ (w + h) r) (omega arith) (omega arith) base)
              (watt_add buf w p p (n + r) (T τ (w + h) r) (λ m. refl) base),
        )
    cand_att inv π w n h p x hc =
        let r : ℕ = req τ inv π (w + h) in
        let base : WAtt τ X inv w p (n + r) (T τ (w + h) r) = base_att inv w n h p r x hc (req_ok τ eq pos inv π (w + h)) in
        (base, watt_up inv w p (n + r) (suc (n + r)) (T τ (w + h) r) (T τ (w + h) r) (omega arith) (omega arith) base)

    via_att : (κ : Kind) (π w p q : ℕ) (s : State) → ((v : ℕ) → turn κ p (req τ κ π v) ≡ q) → SAtt (X q) s → Tidy τ s → SAtt (WAtt τ X κ w p) (via τ κ π w s)
    unfolding via
    via_att κ π w p q lost e x tidy = tt
    via_att κ π w p q (has n h₀ h₁) e x tidy =
        merge_att (WAtt τ X κ w p) (watt_up κ w p) (cand τ κ π n (w + h₀)) (cand τ κ π (suc n) (w + h₁))
        (cand_att κ π w n h₀ p (subst (λ (q : ℕ). X q n h₀) (sym (e (w + h₀))) x.0) tidy.0)
        (cand_att κ π w (suc n) h₁ p (subst (λ (q : ℕ). X q (suc n) h₁) (sym (e (w + h₁))) x.1) (omega arith))

    wire_att : (κ : Kind) (w p : ℕ) (nd : ℕ → State) → ((q : ℕ) → SAtt (X q) (nd q)) → ((q : ℕ) → Tidy τ (nd q)) → SAtt (WAtt τ X κ w p) (wire τ κ w nd p)
    unfolding wire req
    wire_att buf w p nd x tidy = via_att buf 0 w p p (nd p) (λ v. refl) (x p) (tidy p)
    wire_att inv w p nd x tidy =
        merge_att (WAtt τ X inv w p) (watt_up inv w p) (via τ inv 0 w (nd ((p + 0) % 2))) (via τ inv 1 w (nd ((p + 1) % 2)))
        (via_att inv 0 w p ((p + 0) % 2) (nd ((p + 0) % 2)) (λ v. omega arith) (x ((p + 0) % 2)) (tidy ((p + 0) % 2)))
        (via_att inv 1 w p ((p + 1) % 2) (nd ((p + 1) % 2)) (λ v. omega arith) (x ((p + 1) % 2)) (tidy ((p + 1) % 2)))

  -- ---- the wires under one point
  abbrev AAtt : (ℕ → ℕ → Type 0) → Acc → Type 0
  AAtt Z fail = Unit {0}
  AAtt Z (all m g) = (e : ℕ) → Z (m + e) (g e)

  module _ (Y Z W : ℕ → ℕ → Type 0) (up : Up W) (comb : (c t c' l : ℕ) → Y c t → Z c' l → W (c + c') (t + l)) (two : (c t : ℕ) → Y c t → Y (suc (suc c)) τ.cb) where
    put : (c t c' l d : ℕ) → c + c' ≤ d → Y c t → Z c' l → W d (t + l)
    put c t c' l d h y z = up (c + c') d (t + l) (t + l) h (le_refl (t + l)) (comb c t c' l y z)

    conv_att : (m a b n : ℕ) (g : ℕ → ℕ) → Y m a → Y (suc m) b → ((e : ℕ) → Z (n + e) (g e)) → (e : ℕ) → W ((m + n) + e) (conv τ a b g e)
    unfolding conv
    conv_att m a b n g y₀ y₁ z zero = put m a (n + 0) (g 0) ((m + n) + 0) (omega arith) y₀ (z 0)
    conv_att m a b n g y₀ y₁ z (suc zero) =
        pick W ((m + n) + 1) (a + g 1) (b + g 0)
        (put m a (n + 1) (g 1) ((m + n) + 1) (omega arith) y₀ (z 1))
        (put (suc m) b (n + 0) (g 0) ((m + n) + 1) (omega arith) y₁ (z 0))
    conv_att m a b n g y₀ y₁ z (suc (suc e)) =
        let f : ℕ = (m + n) + suc (suc e) in
        pick W f (a + g (suc (suc e))) (min (b + g (suc e)) (min a τ.cb + g e))
        (put m a (n + suc (suc e)) (g (suc (suc e))) f (omega arith) y₀ (z (suc (suc e))))
        (pick W f (b + g (suc e)) (min a τ.cb + g e)
        (put (suc m) b (n + suc e) (g (suc e)) f (omega arith) y₁ (z (suc e)))
        (pick (λ c t. W c (t + g e)) f a τ.cb
        (put m a (n + e) (g e) f (omega arith) y₀ (z e))
        (put (suc (suc m)) τ.cb (n + e) (g e) f (omega arith) (two m a y₀) (z e))))

    join_att : (s : State) (x : Acc) → SAtt Y s → AAtt Z x → AAtt W (join τ s x)
    unfolding join
    join_att lost x y z = tt
    join_att (has m a b) fail y z = tt
    join_att (has m a b) (all n g) y z = conv_att m a b n g y.0 y.1 z

  ifz_att : (Z : ℕ → ℕ → Type 0) → Up Z → (x m e : ℕ) (g : ℕ → ℕ) (rest : State) → ((e : ℕ) → Z (m + e) (g e)) → SAtt Z rest → SAtt Z (ifz x (at_surplus m e g) rest)
  ifz_att Z up zero m e g rest z y =
      (z e, pick Z (suc (m + e)) (g e) (g (suc e)) (up (m + e) (suc (m + e)) (g e) (g e) (omega arith) (omega arith) (z e)) (up (m + suc e) (suc (m + e)) (g (suc e)) (g (suc e)) (omega arith) (omega arith) (z (suc e))))
  ifz_att Z up (suc x) m e g rest z y = y

  close_at_att : (Z : ℕ → ℕ → Type 0) → Up Z → (n m e : ℕ) (g : ℕ → ℕ) → ((e : ℕ) → Z (m + e) (g e)) → SAtt Z (close_at τ n m e g)
  unfolding close_at
  close_at_att Z up zero m e g z = ifz_att Z up (g e - τ.cu) m e g lost z tt
  close_at_att Z up (suc n) m e g z = ifz_att Z up (g e - τ.cu) m e g (close_at τ n m (suc e) g) z (close_at_att Z up n m (suc e) g z)

  close_att : (Z : ℕ → ℕ → Type 0) → Up Z → (n : ℕ) (x : Acc) → AAtt Z x → SAtt Z (close τ n x)
  unfolding close
  close_att Z up n fail z = tt
  close_att Z up n (all m g) z = close_at_att Z up n m 0 g z

  patt_up : (f : Hanging) (p : ℕ) → Up (PAtt τ f p)
  patt_up f p c c' l l' h g a = record { plan = a.plan; good = a.good; par = a.par; cnt = omega (arith, a.cnt); top = omega (arith, a.top) }

  leaf_att : (pin s q : ℕ) → SAtt (LAtt pin s q) (leaf τ pin s q)
  unfolding leaf
  leaf_att pin s q = go ((q - s) + (s - q)) (pin - τ.cu) refl
    where
      go : (z y : ℕ) → (q - s) + (s - q) ≡ z → SAtt (LAtt pin s q) (ifz z (ifz y (has 0 pin pin) lost) lost)
      go zero zero e = (record { pol = omega arith; top = omega arith }, record { pol = omega arith; top = omega arith })
      go zero (suc y) e = tt
      go (suc z) y e = tt

  sink_att : (i w c s : ℕ) (r : Hanging) (p n t n' l : ℕ) → WAtt τ (LAtt c s) τ.kind w p n t → PAtt τ r p n' l → PAtt τ (sink i w c s r) p (n + n') (t + l)
  sink_att i w c s r p n t n' l a z = record {
    plan = (a.os, z.plan);
    good = (GoodW-mono τ w 0 a.b c a.os a.under.top a.good, z.good);
    par = (a.under.pol, z.par);
    cnt = omega (arith, a.cnt, z.cnt);
    top = omega (arith, top_w_mono τ w 0 a.b c a.os a.under.top, a.top, z.top);
  }

  branch_att : (i w : ℕ) (f r : Hanging) (p n t n' l : ℕ) → WAtt τ (PAtt τ f) τ.kind w p n t → PAtt τ r p n' l → PAtt τ (branch i w f r) p (n + n') (t + l)
  branch_att i w f r p n t n' l a z = record {
    plan = (a.os, a.under.plan, z.plan);
    good = (GoodW-mono τ w 0 a.b (load τ f a.under.plan) a.os a.under.top a.good, a.under.good, z.good);
    par = (a.under.par, z.par);
    cnt = omega (arith, a.cnt, a.under.cnt, z.cnt);
    top = omega (arith, top_w_mono τ w 0 a.b (load τ f a.under.plan) a.os a.under.top, a.top, z.top);
  }

  attained : (f : Hanging) (p : ℕ) → AAtt (PAtt τ f p) (acc τ f p)
  unfolding acc
  attained none p = λ e. record { plan = tt; good = tt; par = tt; cnt = omega arith; top = omega arith }
  attained (sink i w c s r) p =
      join_att (WAtt τ (LAtt c s) τ.kind w p) (PAtt τ r p) (PAtt τ (sink i w c s r) p) (patt_up (sink i w c s r) p) (sink_att i w c s r p) (watt_two (LAtt c s) τ.kind w p)
      (wire τ τ.kind w (leaf τ c s) p) (acc τ r p) (wire_att (LAtt c s) τ.kind w p (leaf τ c s) (leaf_att c s) (leaf_tidy τ eq pos c s)) (attained r p)
  attained (branch i w f r) p =
      join_att (WAtt τ (PAtt τ f) τ.kind w p) (PAtt τ r p) (PAtt τ (branch i w f r) p) (patt_up (branch i w f r) p) (branch_att i w f r p) (watt_two (PAtt τ f) τ.kind w p)
      (wire τ τ.kind w (λ q. close τ (2 * width f) (acc τ f q)) p) (acc τ r p)
      (wire_att (PAtt τ f) τ.kind w p (λ q. close τ (2 * width f) (acc τ f q)) (λ q. close_att (PAtt τ f q) (patt_up f q) (2 * width f) (acc τ f q) (attained f q)) (λ q. close_tidy τ eq pos (2 * width f) (acc τ f q)))
      (attained r p)

  pub attained_node : (f : Hanging) (p : ℕ) → SAtt (PAtt τ f p) (node τ f p)
  attained_node f p = close_att (PAtt τ f p) (patt_up f p) (2 * width f) (acc τ f p) (attained f p)
