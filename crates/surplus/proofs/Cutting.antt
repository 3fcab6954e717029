-- What a wire's choice says comes to what a step of the pass asks: its offsets are good over its node, and its node's surplus is within its budget.
use Prim.Native.Nat.{ℕ, zero, suc, ◌+◌, ◌-◌, ◌*◌, ◌≤◌, min}
use mathlib.Core.Path.{◌≡◌, refl, sym, subst, ap, ◌∙◌}
use lib.ListN.{length}
use native.Mathlib.Omega.{arith}
use native.Mathlib.Nat.{le_trans}
use Rattle.rules.specs.Net.{Net, wire, kind, pin, polarity}
use Rattle.rules.specs.Tree.{under}
use Rattle.frontier.specs.Cell.{Kind, inv, Cell, turn}
use Rattle.frontier.specs.Plan.{top_w}
use Rattle.frontier.specs.Frontier.{State, lost, has, Acc, fail, all, ifz, acc, close, leaf, width}
use Rattle.frontier.specs.Cert.{Table}
use Rattle.frontier.proofs.Lower.{close_tidy, leaf_tidy}
use Rattle.frontier.specs.Spaced.{spread}
use Rattle.frontier.proofs.Attained.{spread_length}
use Rattle.states.specs.States.{wire_of}
use Rattle.states.proofs.Leaves.{wire_0, wire_1}
use Rattle.surplus.specs.Wires.{Alive, side_of, node_at, lift_of}
use Rattle.surplus.specs.Pairs.{NearOf}
use Rattle.surplus.specs.Dealt.{f3}
use Rattle.surplus.specs.Choice.{Under, Met, Meets, Aim, Budgeted, offsets, Owes, least, lower, same}
use Rattle.surplus.specs.Walk.{WireOk, Parts}
use Rattle.surplus.proofs.Aiming.{aim_met}
use Rattle.surplus.proofs.Ending.{within_budget}
use Rattle.surplus.proofs.Placing.{stacked, stack_length, offsets_are, Stands, stands}
use Rattle.surplus.proofs.Pairs.{near_0, near_1, near_1_same}

leaf_under : (τ : Cell) (c s q x n h : ℕ) → Under (leaf τ c s q) x n h → (q ≡ s) × (h ≡ c)
unfolding leaf
leaf_under τ c s q x n h u = go ((q - s) + (s - q)) (c - τ.cu) x refl u
  where
    go : (z y x : ℕ) → (q - s) + (s - q) ≡ z → Under (ifz z (ifz y (has 0 c c) lost) lost) x n h → (q ≡ s) × (h ≡ c)
    go zero zero zero e u = (omega arith, u.1)
    go zero zero (suc x) e u = (omega arith, u.1)
    go zero (suc y) x e u = absurd u
    go (suc z) y x e u = absurd u

module _ (τ : Cell) (eq : τ.cu ≡ τ.cb + τ.D) (pos : 1 ≤ τ.D) (n : Net) (t : Table) (p i q e s m a b m' l k π x h r : ℕ)
    (aim : Aim τ s m a b m' l k) (turns : turn τ.kind p (r + k) ≡ q)
    (offs : t.offs i ≡ stacked τ (wire n i) h r k) (cnt : t.cnt i ≡ m + s) (top : t.top i ≡ f3 s a b (min a τ.cb)) where
  len : length (t.offs i) ≡ r + k
  len = ap length offs ∙ stack_length (spread τ (wire n i) 0 h r) k (wire n i) ∙ ap (λ (z : ℕ). z + k) (spread_length τ eq pos (wire n i) 0 h r)

  turned_to : turn τ.kind p (length (t.offs i)) ≡ q
  turned_to = ap (turn τ.kind p) len ∙ turns

  top_le : (n₀ : ℕ) → Stands τ eq pos (wire n i) m' l h n₀ (stacked τ (wire n i) h r k) k → (z : ℕ) → z ≡ k → top_w τ (wire n i) 0 h (stacked τ (wire n i) h r k) ≤ f3 s a b (min a τ.cb)
  top_le n₀ d zero e = le_trans (d.top (sym e)) (aim.plain (sym e))
  top_le n₀ d (suc z) e = le_trans (d.topped (omega arith)) (aim.topped (omega arith))

  wire_ok : (κ : ℕ) → (o : Met τ π (wire n i) (side_of τ κ (pin n i) (polarity n i) (2 * width (under n i)) (acc τ (under n i) q) q) m' l x h r) → t.b i ≡ h → t.n i ≡ o.n
      → (κ ≡ 0 → (n₀ h₀ : ℕ) → Under (close τ (2 * width (under n i)) (acc τ (under n i) q)) x n₀ h₀ → Budgeted (acc τ (under n i) q) e n₀ h₀) → WireOk τ n t p i q e κ
  wire_ok zero o eb en bud =
      let y : Acc = acc τ (under n i) q in
      let d = stands τ eq pos π (wire n i) (close τ (2 * width (under n i)) y) m' l x h r k (close_tidy τ eq pos (2 * width (under n i)) y) o in
      let u : Budgeted y e o.n h = bud refl o.n h o.under in (
        rw (eb, offs) d.good,
        omega (arith, len, ap length offs, d.count, aim.count),
        rw (eb, offs, top) (top_le o.n d k refl),
        turned_to,
        λ c l w. rw (eb, en) (within_budget y e o.n h c l u w),
      )
  wire_ok (suc κ) o eb en bud =
      let d = stands τ eq pos π (wire n i) (leaf τ (pin n i) (polarity n i) q) m' l x h r k (leaf_tidy τ eq pos (pin n i) (polarity n i) q) o in
      let v = leaf_under τ (pin n i) (polarity n i) q x o.n h o.under in (
        turned_to ∙ v.0,
        rw (sym v.1, offs) d.good,
        omega (arith, len, ap length offs, d.count, aim.count),
        rw (sym v.1, offs, top) (top_le o.n d k refl),
      )

-- the node's surplus, by what is kept of it
under_1 : (s : State) (x n h : ℕ) → 1 ≤ x → Under s x n h → Under s 1 n h
under_1 lost x n h l u = u
under_1 (has m a b) zero n h l u = absurd (omega arith)
under_1 (has m a b) (suc x) n h l u = u

pub owes_budget : (τ : Cell) (last x h h₁ E e : ℕ) (z : Acc) → NearOf τ last z h h₁ (suc E) → Owes x h h₁ E e → (n l : ℕ) → Under (close τ last z) x n l → Budgeted z e n l
owes_budget τ last x h h₁ E e z k (least p q) n l u = rw q (near_0 τ last h h₁ E n l z k (subst (λ (x : ℕ). Under (close τ last z) x n l) p u))
owes_budget τ last x h h₁ E e z k (lower p y q) n l u = rw q (near_1 τ last h h₁ E n l z k y (under_1 (close τ last z) x n l p u))
owes_budget τ last x h h₁ E e z k (same p y q) n l u = rw q (near_1_same τ last h h₁ E n l z k y (under_1 (close τ last z) x n l p u))

-- what a wire is worth over its node's states
pub lift_is : (τ : Cell) (n : Net) (i p : ℕ) → τ.kind ≡ inv → p ≤ 1 → lift_of τ n i p ≡ wire_of τ inv (wire n i) (node_at τ n i p) (node_at τ n i (1 - p))
lift_is τ n i zero e l = wire_0 τ τ.kind (wire n i) (node_at τ n i) ∙ ap (λ (κ : Kind). wire_of τ κ (wire n i) (node_at τ n i 0) (node_at τ n i 1)) e
lift_is τ n i (suc zero) e l = wire_1 τ τ.kind (wire n i) (node_at τ n i) ∙ ap (λ (κ : Kind). wire_of τ κ (wire n i) (node_at τ n i 1) (node_at τ n i 0)) e
lift_is τ n i (suc (suc p)) e l = absurd (omega arith)

-- some candidate meets the target of a wire's part
pub part_met : (τ : Cell) (n : Net) (p i s m' l k : ℕ) (pt : Parts τ n p i) → τ.kind ≡ inv → p ≤ 1 → Aim τ s pt.m pt.a pt.b m' l k → Meets τ (wire n i) (node_at τ n i p) (node_at τ n i (1 - p)) m' l
part_met τ n p i s m' l k pt e lp a = aim_met τ (wire n i) s pt.m pt.a pt.b m' l k (node_at τ n i p) (node_at τ n i (1 - p)) (sym (lift_is τ n i p e lp) ∙ pt.lifted) a

-- the node below the choice is not lost
close_alive : (τ : Cell) (last : ℕ) (y : Acc) (x n h : ℕ) → Under (close τ last y) x n h → Alive y
unfolding close
close_alive τ last fail x n h u = u
close_alive τ last (all m g) x n h u = tt

pub met_alive : (τ : Cell) (n : Net) (i q x n₀ h κ : ℕ) → κ ≡ 0 → Under (side_of τ κ (pin n i) (polarity n i) (2 * width (under n i)) (acc τ (under n i) q) q) x n₀ h → Alive (acc τ (under n i) q)
met_alive τ n i q x n₀ h zero e u = close_alive τ (2 * width (under n i)) (acc τ (under n i) q) x n₀ h u
met_alive τ n i q x n₀ h (suc κ) e u = absurd (omega arith)

-- the step's fact of wire i, which takes s: the target (m', l) with k more at the upper end, met over its node at the polarity q
module _ (τ : Cell) (eq : τ.cu ≡ τ.cb + τ.D) (pos : 1 ≤ τ.D) {n : Net} {p i s : ℕ} (pt : Parts τ n p i) (q e m' l k π x h r h₀ h₁ E : ℕ)
    (aim : Aim τ s pt.m pt.a pt.b m' l k) (turns : turn τ.kind p (r + k) ≡ q) (o : Met τ π (wire n i) (node_at τ n i q) m' l x h r)
    (near : kind n i ≡ 0 → NearOf τ (2 * width (under n i)) (acc τ (under n i) q) h₀ h₁ (suc E)) (owes : Owes x h₀ h₁ E e) where
  pub cut_good : (t : Table) → t.offs i ≡ offsets τ (wire n i) h r k → t.cnt i ≡ pt.m + s → t.top i ≡ f3 s pt.a pt.b (min pt.a τ.cb) → t.n i ≡ o.n → t.b i ≡ h → WireOk τ n t p i q e (kind n i)
  cut_good t eo ec et en eb =
      wire_ok τ eq pos n t p i q e s pt.m pt.a pt.b m' l k π x h r aim turns (eo ∙ offsets_are τ eq (wire n i) h r k) ec et (kind n i) o eb en
      (λ z. owes_budget τ (2 * width (under n i)) x h₀ h₁ E e (acc τ (under n i) q) (near z) owes)
