-- One step of the walk down: what is left to be shown of the wires from i on follows from what is left from i + 1 on.
use Prim.Native.Nat.{ℕ, zero, suc, ◌+◌, ◌-◌, ◌≤◌, ◌<◌, min}
use mathlib.Core.Path.{◌≡◌, refl, sym, subst, ap, ◌∙◌}
use native.Mathlib.Omega.{arith}
use native.Mathlib.Decide.{ℕ_discrete}
use Rattle.rules.specs.Net.{Net, places, parent, wire, kind, pin, polarity}
use Rattle.rules.specs.Tree.{Hanging, hanging}
use Rattle.rules.specs.Sound.{SoundNet}
use Rattle.rules.proofs.Hanging.{hanging_skip}
use Rattle.frontier.specs.Cell.{Cell}
use Rattle.frontier.specs.Frontier.{State, has, Acc, all, acc, join, conv}
use Rattle.frontier.specs.Cert.{Table, sum, Ok}
use Rattle.surplus.specs.Wires.{lift_of}
use Rattle.surplus.specs.Dealt.{f3}
use Rattle.surplus.specs.Walk.{Within, WireOk}
use Rattle.surplus.proofs.Trees.{grow, grown, acc_grow}

-- the wires f under a point of polarity p with a surplus e
abbrev pub DoneF : Cell → Table → ℕ → ℕ → Hanging → Type 0
DoneF τ t p e f = Ok τ t p f × Within (acc τ f p) (sum t.cnt f) (sum t.top f) e

-- the wires from i on under v
abbrev pub Done : Cell → Net → Table → (ℕ → ℕ) → (ℕ → ℕ) → ℕ → ℕ → Type 0
Done τ n t side left i v = DoneF τ t (side v) (left v) (hanging n (places n - i) v)

grow_sum : (g : ℕ → ℕ) (k i w c s : ℕ) (f r : Hanging) → sum g (grow k i w c s f r) ≡ g i + sum g r
grow_sum g zero i w c s f r = refl
grow_sum g (suc k) i w c s f r = refl

grow_ok : (τ : Cell) (n : Net) (t : Table) (p i q e k : ℕ) (r : Hanging) → WireOk τ n t p i q e k → (k ≡ 0 → DoneF τ t q e (hanging n (places n - suc i) i)) → Ok τ t p r
    → Ok τ t p (grow k i (wire n i) (pin n i) (polarity n i) (hanging n (places n - suc i) i) r)
grow_ok τ n t p i q e zero r y below o =
    let d = below refl in
    let u = y.4 (sum t.cnt (hanging n (places n - suc i) i)) (sum t.top (hanging n (places n - suc i) i)) d.1 in
    (y.0, y.1, y.2, u.0, u.1, subst (λ (z : ℕ). Ok τ t z (hanging n (places n - suc i) i)) (sym y.3) d.0, o)
grow_ok τ n t p i q e (suc k) r y below o = (y.0, y.1, y.2, y.3, o)

within_join : (τ : Cell) (s m a b M e c l c' l' : ℕ) (g : ℕ → ℕ) (x y : Acc) → x ≡ join τ (has m a b) y → y ≡ all M g → s ≤ e → c ≡ m + s → l ≡ f3 s a b (min a τ.cb)
    → f3 s a b (min a τ.cb) + g (e - s) ≤ conv τ a b g e → Within y c' l' (e - s) → Within x (c + c') (l + l') e
unfolding join
within_join τ s m a b M e c l c' l' g x y ex ey h ec el f w =
    let v : Within (all M g) c' l' (e - s) = subst (λ (z : Acc). Within z c' l' (e - s)) ey w in
    subst (λ (z : Acc). Within z (c + c') (l + l') e) (sym (ex ∙ ap (join τ (has m a b)) ey)) (omega (arith, v.0), omega (arith, v.1))

module _ (τ : Cell) {n : Net} (sound : SoundNet n) (t : Table) (side left side' left' : ℕ → ℕ) (i s m a b M : ℕ) (g : ℕ → ℕ)
    (h : i < places n) (lo : parent n i < i)
    (lifted : lift_of τ n i (side (parent n i)) ≡ has m a b)
    (rest : acc τ (hanging n (places n - suc i) (parent n i)) (side (parent n i)) ≡ all M g)
    (few : s ≤ left (parent n i)) (share : f3 s a b (min a τ.cb) + g (left (parent n i) - s) ≤ conv τ a b g (left (parent n i)))
    (sides : (u : ℕ) → (u ≡ i → ⊥) → side' u ≡ side u) (own : left' (parent n i) ≡ left (parent n i) - s) (others : (u : ℕ) → (u ≡ i → ⊥) → (u ≡ parent n i → ⊥) → left' u ≡ left u)
    (cnt : t.cnt i ≡ m + s) (top : t.top i ≡ f3 s a b (min a τ.cb)) (good : WireOk τ n t (side (parent n i)) i (side' i) (left' i) (kind n i)) where
  at_parent : Done τ n t side' left' (suc i) (parent n i) → (kind n i ≡ 0 → Done τ n t side' left' (suc i) i) → Done τ n t side left i (parent n i)
  at_parent d below =
      let v : ℕ = parent n i in
      let p : ℕ = side v in
      let r : Hanging = hanging n (places n - suc i) v in
      let f : Hanging = hanging n (places n - suc i) i in
      let d' : DoneF τ t p (left v - s) r = subst (λ (e : ℕ). DoneF τ t p e r) own (subst (λ (q : ℕ). DoneF τ t q (left' v) r) (sides v (λ z. omega arith)) d) in
      let ok : Ok τ t p (grow (kind n i) i (wire n i) (pin n i) (polarity n i) f r) = grow_ok τ n t p i (side' i) (left' i) (kind n i) r good below d'.0 in
      let ac : acc τ (grow (kind n i) i (wire n i) (pin n i) (polarity n i) f r) p ≡ join τ (has m a b) (acc τ r p) =
      acc_grow τ (kind n i) i (wire n i) (pin n i) (polarity n i) f r p ∙ ap (λ (z : State). join τ z (acc τ r p)) lifted in
      let wi : Within (acc τ (grow (kind n i) i (wire n i) (pin n i) (polarity n i) f r) p) (t.cnt i + sum t.cnt r) (t.top i + sum t.top r) (left v) =
      within_join τ s m a b M (left v) (t.cnt i) (t.top i) (sum t.cnt r) (sum t.top r) g _ (acc τ r p) ac rest few cnt top share d'.1 in
      subst (DoneF τ t p (left v)) (sym (grown sound i v h refl))
      (ok, rw (grow_sum t.cnt (kind n i) i (wire n i) (pin n i) (polarity n i) f r, grow_sum t.top (kind n i) i (wire n i) (pin n i) (polarity n i) f r) wi)

  elsewhere : (u : ℕ) → u < i → (u ≡ parent n i → ⊥) → Done τ n t side' left' (suc i) u → Done τ n t side left i u
  elsewhere u l ne d =
      let f : Hanging = hanging n (places n - suc i) u in
      subst (DoneF τ t (side u) (left u)) (sym (hanging_skip n i u h (λ z. ne (sym z))))
      (subst (λ (e : ℕ). DoneF τ t (side u) e f) (others u (λ z. omega arith) ne) (subst (λ (q : ℕ). DoneF τ t q (left' u) f) (sides u (λ z. omega arith)) d))

  -- for the nodes before i that are branch points
  pub step_down : ((u : ℕ) → u < suc i → kind n u ≡ 0 → Done τ n t side' left' (suc i) u) → kind n (parent n i) ≡ 0 → (u : ℕ) → u < i → kind n u ≡ 0 → Done τ n t side left i u
  step_down d z u l k = elim (ℕ_discrete u (parent n i)) [
    | yes e ↦ subst (Done τ n t side left i) (sym e) (at_parent (d (parent n i) (omega arith) z) (λ y. d i (omega arith) y))
    | no ne ↦ elsewhere u l ne (d u (omega arith) k)
  ]
