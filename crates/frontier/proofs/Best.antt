-- The frontier at the source is the least count of a legal plan, and is lost only where there is none: nothing is better (Lower), and it is reached (Attained).
use Prim.Native.Nat.{ℕ, zero, suc, ◌+◌, ◌-◌, ◌*◌, ◌≤◌, min}
use mathlib.Core.Path.{◌≡◌, refl, subst}
use native.Mathlib.Omega.{arith}
use Rattle.rules.specs.Tree.{Hanging}
use Rattle.frontier.specs.Cell.{Cell}
use Rattle.frontier.specs.Plan.{Plan, count, load, Settled}
use Rattle.frontier.specs.Frontier.{State, lost, has, merge_by, merge, width, acc, node, root}
use Rattle.frontier.proofs.Lower.{Bd, at0, at1, more, LB, Tidy, merge_l, merge_r, close_tidy, lower_node}
use Rattle.frontier.proofs.Attained.{SAtt, Up, PAtt, merge_att, attained_node}

-- a legal plan with at most c repeaters and at most the load l at the driver
pub record RAtt (τ : Cell) (f : Hanging) (c l : ℕ) : Type 0 where
  pub p : ℕ
  pub plan : Plan f
  pub legal : Settled τ p f plan
  pub cnt : count f plan ≤ c
  pub top : load τ f plan ≤ l

-- n is the least count of a legal plan
pub record Best (τ : Cell) (f : Hanging) (n : ℕ) : Type 0 where
  pub p : ℕ
  pub plan : Plan f
  pub legal : Settled τ p f plan
  pub is : count f plan ≡ n
  pub least : (p' : ℕ) (pl : Plan f) → Settled τ p' f pl → n ≤ count f pl

bd_low : (m a b c l : ℕ) → Bd m a b c l → m ≤ c
bd_low m a b c l (at0 x y) = omega arith
bd_low m a b c l (at1 x y) = omega arith
bd_low m a b c l (more x) = omega arith

module _ (τ : Cell) (eq : τ.cu ≡ τ.cb + τ.D) (pos : 1 ≤ τ.D) where
  lower_root : (f : Hanging) (p : ℕ) (pl : Plan f) → Settled τ p f pl → LB (root τ f) (count f pl) (load τ f pl)
  lower_root f zero pl h = merge_l (node τ f 0) (node τ f 1) (count f pl) (load τ f pl) (lower_node τ eq pos f pl 0 h.good h.fits h.par)
  lower_root f (suc zero) pl h = merge_r (node τ f 0) (node τ f 1) (count f pl) (load τ f pl) (lower_node τ eq pos f pl 1 h.good h.fits h.par)
  lower_root f (suc (suc p)) pl h = absurd (omega (arith, h.pol))

  ratt_up : (f : Hanging) → Up (RAtt τ f)
  ratt_up f c c' l l' h g a = record { p = a.p; plan = a.plan; legal = a.legal; cnt = omega (arith, a.cnt); top = omega (arith, a.top) }

  lift_att : (f : Hanging) (p c l : ℕ) → p ≤ 1 → l ≤ τ.cu → PAtt τ f p c l → RAtt τ f c l
  lift_att f p c l h g a = record { p = p; plan = a.plan; legal = record { pol = h; good = a.good; fits = omega (arith, a.top); par = a.par }; cnt = a.cnt; top = a.top }

  lift_state : (f : Hanging) (p : ℕ) (s : State) → p ≤ 1 → Tidy τ s → SAtt (PAtt τ f p) s → SAtt (RAtt τ f) s
  lift_state f p lost h t x = tt
  lift_state f p (has m a b) h t x = (lift_att f p m a h t.0 x.0, lift_att f p (suc m) b h (omega arith) x.1)

  attained_root : (f : Hanging) → SAtt (RAtt τ f) (root τ f)
  attained_root f =
      merge_att (RAtt τ f) (ratt_up f) (node τ f 0) (node τ f 1)
      (lift_state f 0 (node τ f 0) (omega arith) (close_tidy τ eq pos (2 * width f) (acc τ f 0)) (attained_node τ eq pos f 0))
      (lift_state f 1 (node τ f 1) (omega arith) (close_tidy τ eq pos (2 * width f) (acc τ f 1)) (attained_node τ eq pos f 1))

  -- where there is an answer, it is the least count
  pub optimal : (f : Hanging) (n a b : ℕ) → root τ f ≡ has n a b → Best τ f n
  optimal f n a b e =
      let r : RAtt τ f n a = (subst (SAtt (RAtt τ f)) e (attained_root f)).0 in
      let low : (p : ℕ) (pl : Plan f) → Settled τ p f pl → n ≤ count f pl = λ p pl h. bd_low n a b (count f pl) (load τ f pl) (subst (λ (s : State). LB s (count f pl) (load τ f pl)) e (lower_root f p pl h)) in
      record { p = r.p; plan = r.plan; legal = r.legal; is = omega (arith, r.cnt, low r.p r.plan r.legal); least = low }

  -- and where there is none, no plan is legal
  pub hopeless : (f : Hanging) → root τ f ≡ lost → (p : ℕ) (pl : Plan f) → Settled τ p f pl → ⊥
  hopeless f e p pl h = subst (λ (s : State). LB s (count f pl) (load τ f pl)) e (lower_root f p pl h)

-- ---- of two polarities that both have an answer the source takes the one with fewer
merge_by_least : (d e m a b n x y : ℕ) → n - m ≡ d → m - n ≡ e → (M A B : ℕ) → merge_by d e m a b n x y ≡ has M A B → M ≡ min m n
merge_by_least zero zero m a b n x y p q M A B h = let z : M ≡ m = cc in omega arith
merge_by_least zero (suc zero) m a b n x y p q M A B h = let z : M ≡ n = cc in omega arith
merge_by_least zero (suc (suc e)) m a b n x y p q M A B h = let z : M ≡ n = cc in omega arith
merge_by_least (suc zero) e m a b n x y p q M A B h = let z : M ≡ m = cc in omega arith
merge_by_least (suc (suc d)) e m a b n x y p q M A B h = let z : M ≡ m = cc in omega arith

pub merge_least : (m a b n x y M A B : ℕ) → merge (has m a b) (has n x y) ≡ has M A B → M ≡ min m n
merge_least m a b n x y M A B h = merge_by_least (n - m) (m - n) m a b n x y refl refl M A B h
