-- What the walk reads of a wire in the tables is what it is worth, and what it settles of the wire's node comes from what is kept of the node.
use Prim.Native.Nat.{ℕ, zero, suc, ◌+◌, ◌-◌, ◌*◌, ◌≤◌, ◌<◌}
use mathlib.Core.Path.{◌≡◌, refl, sym, subst, ap, ◌∙◌}
use mathlib.Core.List.{List}
use native.Mathlib.Omega.{arith}
use Rattle.rules.specs.Net.{Net, places, parent, pin, polarity}
use Rattle.rules.specs.Tree.{hanging, under}
use Rattle.rules.specs.Sound.{SoundNet}
use Rattle.frontier.specs.Cell.{Cell}
use Rattle.frontier.specs.Frontier.{State, lost, has, all, ifz, acc, join, conv, leaf, width}
use Rattle.surplus.specs.declared.Slot.{Slot}
use Rattle.surplus.specs.declared.Closed.{Closed}
use Rattle.surplus.specs.Pairs.{NearOf, near_state, Kept}
use Rattle.surplus.specs.Choice.{Under, Owes, least, lower, same}
use Rattle.surplus.specs.Walk.{Parts}
use Rattle.surplus.specs.Tables.{next_at, lo_at, hi_at, state_of, count_at, SlotIs, NodeNear, WiresJoined}
use Rattle.surplus.proofs.Trees.{acc_more}
use Rattle.surplus.proofs.Meeting.{slot_at}

module _ (τ : Cell) {n : Net} (sound : SoundNet n) {links : List ℕ} {slots : List Slot} (w : WiresJoined τ n links slots 1) {i p : ℕ} (lo : 1 ≤ i) (h : i < places n) (lp : p ≤ 1) (pt : Parts τ n p i) where
  whole : acc τ (hanging n (places n - i) (parent n i)) p ≡ all (pt.m + pt.M) (conv τ pt.a pt.b pt.g)
  unfolding join
  whole = sym (acc_more τ sound i p h) ∙ ap (λ (x : State). join τ x (acc τ (hanging n (places n - suc i) (parent n i)) p)) pt.lifted ∙ ap (join τ (has pt.m pt.a pt.b)) pt.rest

  own_count : count_at slots p i ≡ suc (pt.m + pt.M)
  own_count = (subst (SlotIs slots p i) whole (w.slot i p lo lo h lp)).0

  next_count : count_at slots p (next_at links i) ≡ suc pt.M
  next_count = (subst (SlotIs slots p (next_at links i)) pt.rest (slot_at τ w lp (suc i) (parent n i) (next_at links i) (omega arith) (w.linked.nexts i lo h))).0

  -- its least count, and its two loads
  pub count_is : (count_at slots p (next_at links i) ≤ count_at slots p i) × (count_at slots p i - count_at slots p (next_at links i) ≡ pt.m)
  count_is = (omega (arith, own_count, next_count), omega (arith, own_count, next_count))

  pub loads_are : (lo_at slots p i ≡ pt.a) × (hi_at slots p i ≡ pt.b)
  loads_are = subst (λ (s : State). Kept s (lo_at slots p i) (hi_at slots p i)) pt.lifted (w.kept i p lo lo h lp)

-- ---- the node's surplus
-- where a node's state is had, it takes a surplus
near_some : (c h h₁ o x k l : ℕ) → Under (near_state c h h₁ o) x k l → 1 ≤ o
near_some zero h h₁ o x k l u = absurd u
near_some (suc m) h h₁ zero x k l u = absurd u
near_some (suc m) h h₁ (suc E) x k l u = omega arith

pub over_some : (c : ℕ) (r : Closed) (x k l : ℕ) → Under (state_of c r) x k l → 1 ≤ r.over
over_some c r x k l u = near_some c r.load r.more r.over x k l u

pub near_branch : (τ : Cell) (n : Net) (p j κ : ℕ) (r : Closed) → κ ≡ 0 → 1 ≤ r.over → NodeNear τ n p j κ r → NearOf τ (2 * width (under n j)) (acc τ (under n j) p) r.load r.more (suc (r.over - 1))
near_branch τ n p j zero r e l k = let q : r.over ≡ suc (r.over - 1) = omega arith in subst (NearOf τ (2 * width (under n j)) (acc τ (under n j) p) r.load r.more) q k
near_branch τ n p j (suc κ) r e l k = absurd (omega arith)

-- a sink takes none
sink_near : (τ : Cell) (c s q h h₁ E : ℕ) → leaf τ c s q ≡ near_state 1 h h₁ (suc E) → (E ≡ 0) × (h ≡ h₁)
unfolding leaf
sink_near τ c s q h h₁ E e = go ((q - s) + (s - q)) (c - τ.cu) e
  where
    go : (z y : ℕ) → ifz z (ifz y (has 0 c c) lost) lost ≡ has (0 + E) h h₁ → (E ≡ 0) × (h ≡ h₁)
    go zero zero e = let x : 0 ≡ 0 + E = cc in let y : c ≡ h = cc in let z : c ≡ h₁ = cc in (omega arith, sym y ∙ z)
    go zero (suc y) e = absurd (let z : ◌≡◌ {A = ℕ} 0 1 = cc in omega arith)
    go (suc z) y e = absurd (let z : ◌≡◌ {A = ℕ} 0 1 = cc in omega arith)

pub sink_owes : (τ : Cell) (n : Net) (p j κ : ℕ) (r : Closed) (x e : ℕ) → (κ ≡ 0 → ⊥) → 1 ≤ r.over → NodeNear τ n p j κ r → Owes x r.load r.more (r.over - 1) e → e ≡ 0
sink_owes τ n p j zero r x e ne l k w = absurd (ne refl)
sink_owes τ n p j (suc κ) r x e ne l k w = go (sink_near τ (pin n j) (polarity n j) p r.load r.more (r.over - 1) (let q : r.over ≡ suc (r.over - 1) = omega arith in subst (λ (o : ℕ). leaf τ (pin n j) (polarity n j) p ≡ near_state 1 r.load r.more o) q k)) w
  where
    go : (r.over - 1 ≡ 0) × (r.load ≡ r.more) → Owes x r.load r.more (r.over - 1) e → e ≡ 0
    go s (least a b) = omega (arith, s.0)
    go s (lower a b c) = absurd (omega (arith, s.1))
    go s (same a b c) = omega (arith, s.0)
