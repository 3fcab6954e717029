-- The two loads of a slot are made wire by wire, and decide the node where the first of them fits.
use Prim.Native.Nat.{ℕ, zero, suc, ◌+◌, ◌-◌, ◌≤◌, ◌<◌, min}
use mathlib.Core.Path.{◌≡◌, refl, sym, subst, ◌∙◌}
use native.Mathlib.Omega.{arith}
use native.Mathlib.Decide.{dec_lt}
use Rattle.frontier.specs.Cell.{Cell}
use Rattle.frontier.specs.Frontier.{State, lost, has, Acc, fail, all, conv, join, close_at, close}
use Rattle.states.proofs.Sinks.{ifz_yes, ifz_no}
use Rattle.surplus.specs.Pairs.{PairOf, Fits, NearOf, near_state}
use Rattle.surplus.specs.Choice.{Under, Budgeted}

module _ (τ : Cell) where
  -- the product at 0 and at 1 needs no more than the loads at 0 and at 1
  pub conv_at_0 : (a b : ℕ) (g : ℕ → ℕ) (x : ℕ) → x ≡ g 0 → a + x ≡ conv τ a b g 0
  unfolding conv
  conv_at_0 a b g x e = rw e

  pub conv_at_1 : (a b : ℕ) (g : ℕ → ℕ) (x y : ℕ) → x ≡ g 0 → y ≡ g 1 → min (a + y) (b + x) ≡ conv τ a b g 1
  unfolding conv
  conv_at_1 a b g x y e f = rw (e, f)

  -- ---- the slot
  pub pair_lost : (x y : ℕ) (s : State) (z : Acc) → s ≡ lost → PairOf 0 x y (join τ s z)
  unfolding join
  pair_lost x y lost z e = refl
  pair_lost x y (has m a b) z e = absurd (let k : ◌≡◌ {A = ℕ} 0 1 = cc in omega arith)

  pub pair_dead : (c x y x' y' : ℕ) (s : State) (z : Acc) → PairOf c x y z → c ≡ 0 → PairOf 0 x' y' (join τ s z)
  unfolding join
  pair_dead c x y x' y' lost z q e = refl
  pair_dead c x y x' y' (has m a b) fail q e = refl
  pair_dead c x y x' y' (has m a b) (all n g) q e = absurd (omega (arith, q.0))

  -- one wire more
  pub pair_join : (c x y m a b : ℕ) (s : State) (z : Acc) → PairOf c x y z → (c ≡ 0 → ⊥) → s ≡ has m a b → PairOf (m + c) (a + x) (min (a + y) (b + x)) (join τ s z)
  unfolding join
  pair_join c x y m a b s fail q ne e = absurd (ne q)
  pair_join c x y m a b s (all n g) q ne e =
      subst (λ (s : State). PairOf (m + c) (a + x) (min (a + y) (b + x)) (join τ s (all n g))) (sym e)
      (omega (arith, q.0), conv_at_0 a b g x q.1, conv_at_1 a b g x y q.1 q.2)

  -- ---- the node
  close_at_is : (n m e E : ℕ) (g : ℕ → ℕ) → e ≤ E → E ≤ e + n → Fits τ g E → close_at τ n m e g ≡ has (m + E) (g E) (min (g E) (g (suc E)))
  unfolding close_at
  close_at_is zero m e E g l h f =
      let q : e ≡ E = omega arith in
      rw q (ifz_yes (g E - τ.cu) _ _ (omega (arith, f.fits)))
  close_at_is (suc n) m e E g l h f = elim (dec_lt e E) [
    | yes q ↦ ifz_no (g e - τ.cu) _ _ (omega (arith, f.over e q)) ∙ close_at_is n m (suc e) E g (omega arith) (omega arith) f
    | no q ↦ let q' : e ≡ E = omega arith in rw q' (ifz_yes (g E - τ.cu) _ _ (omega (arith, f.fits)))
  ]

  close_at_not : (n m e : ℕ) (g : ℕ → ℕ) → ((k : ℕ) → e ≤ k → k ≤ e + n → τ.cu < g k) → close_at τ n m e g ≡ lost
  unfolding close_at
  close_at_not zero m e g o = ifz_no (g e - τ.cu) _ _ (omega (arith, o e (omega arith) (omega arith)))
  close_at_not (suc n) m e g o =
      ifz_no (g e - τ.cu) _ _ (omega (arith, o e (omega arith) (omega arith))) ∙ close_at_not n m (suc e) g (λ k l h. o k (omega arith) (omega arith))

  -- where the first load fits the surplus is 0, and no row is needed
  pub near_fits : (last c x y : ℕ) (z : Acc) → PairOf c x y z → (c ≡ 0 → ⊥) → x ≤ τ.cu → NearOf τ last z x (min x y) 1
  near_fits last c x y fail q ne h = absurd (ne q)
  near_fits last c x y (all m g) q ne h =
      (omega arith, record { over = λ k l. absurd (omega arith); fits = omega (arith, q.1) }, q.1, rw (q.1, q.2))

  pub near_dead : (last c x y h h₁ : ℕ) (z : Acc) → PairOf c x y z → c ≡ 0 → NearOf τ last z h h₁ 0
  near_dead last c x y h h₁ fail q e = refl
  near_dead last c x y h h₁ (all m g) q e = absurd (omega (arith, q.0))

  -- what is kept of the node is its state
  pub near_state_lem : (last c x y h h₁ o : ℕ) (z : Acc) → PairOf c x y z → NearOf τ last z h h₁ o → close τ last z ≡ near_state c h h₁ o
  unfolding close
  near_state_lem last c x y h h₁ o fail q k = let e : c ≡ 0 = q in rw e
  near_state_lem last c x y h h₁ zero (all m g) q k = rw q.0 (close_at_not last m 0 g (λ j l u. k j (omega arith)))
  near_state_lem last c x y h h₁ (suc E) (all m g) q k = rw (q.0, k.2, k.3) (close_at_is last m 0 E g (omega arith) (omega (arith, k.0)) k.1)

  -- ---- the surplus that the node is to have
  -- its least count asks for the least fitting surplus, and one more repeater for one more, where that lowers the load
  pub near_0 : (last h h₁ E n l : ℕ) (z : Acc) → NearOf τ last z h h₁ (suc E) → Under (close τ last z) 0 n l → Budgeted z E n l
  unfolding close
  near_0 last h h₁ E n l fail k u = u
  near_0 last h h₁ E n l (all m g) k u =
      let v : Under (has (m + E) (g E) (min (g E) (g (suc E)))) 0 n l = subst (λ (s : State). Under s 0 n l) (close_at_is last m 0 E g (omega arith) (omega (arith, k.0)) k.1) u in
      (omega (arith, v.0), omega (arith, v.1))

  pub near_1 : (last h h₁ E n l : ℕ) (z : Acc) → NearOf τ last z h h₁ (suc E) → h₁ < h → Under (close τ last z) 1 n l → Budgeted z (suc E) n l
  unfolding close
  near_1 last h h₁ E n l fail k lt u = u
  near_1 last h h₁ E n l (all m g) k lt u =
      let v : Under (has (m + E) (g E) (min (g E) (g (suc E)))) 1 n l = subst (λ (s : State). Under s 1 n l) (close_at_is last m 0 E g (omega arith) (omega (arith, k.0)) k.1) u in
      (omega (arith, v.0), omega (arith, v.1, k.2, k.3))

  pub near_1_same : (last h h₁ E n l : ℕ) (z : Acc) → NearOf τ last z h h₁ (suc E) → h ≤ h₁ → Under (close τ last z) 1 n l → Budgeted z E n l
  unfolding close
  near_1_same last h h₁ E n l fail k le u = u
  near_1_same last h h₁ E n l (all m g) k le u =
      let v : Under (has (m + E) (g E) (min (g E) (g (suc E)))) 1 n l = subst (λ (s : State). Under s 1 n l) (close_at_is last m 0 E g (omega arith) (omega (arith, k.0)) k.1) u in
      (omega (arith, v.0), omega (arith, v.1, k.2, k.3))
