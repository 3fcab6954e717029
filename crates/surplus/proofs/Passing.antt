-- The pass in rising wire order: each wire's part was dealt when its parent was reached, so the pass finds it decided.
use Prim.Native.Nat.{ℕ, zero, suc, ◌+◌, ◌-◌, ◌*◌, ◌≤◌, ◌<◌, min}
use mathlib.Core.Path.{◌≡◌, refl, sym, subst, ◌∙◌}
use mathlib.Core.List.{List}
use native.Mathlib.Omega.{arith}
use native.Mathlib.Decide.{ℕ_discrete}
use Rattle.rules.specs.Net.{Net, places, parent, wire, kind, pin, polarity}
use Rattle.rules.specs.Tree.{Hanging, none, sink, branch, hanging, under, tree}
use Rattle.rules.specs.Sound.{SoundNet}
use Rattle.rules.proofs.Hanging.{hanging_skip, hanging_end}
use Rattle.frontier.specs.Cell.{Cell}
use Rattle.frontier.specs.Plan.{plan_of, count, Settled}
use Rattle.frontier.specs.Frontier.{State, lost, has, Acc, fail, all, conv, acc, close, width}
use Rattle.frontier.specs.Cert.{Table}
use Rattle.surplus.specs.Wires.{lift_of, Alive, Ordered, Each}
use Rattle.surplus.specs.Dealt.{f3, Takes, Dealt}
use Rattle.surplus.specs.Choice.{Budgeted}
use Rattle.surplus.specs.Walk.{WireOk, Parts}
use Rattle.surplus.proofs.Trees.{grow, grown}
use Rattle.surplus.proofs.Going.{Going, going_start, going_on, going_end}
use Rattle.surplus.proofs.Ending.{finish}
use Rattle.surplus.proofs.Chains.{dealt_same}

-- ---- the wires under v from i on are in order, and v is the parent of each
ordered_grow : (lo k i w c s : ℕ) (f r : Hanging) → lo ≤ i → Ordered (suc i) r → Ordered lo (grow k i w c s f r)
ordered_grow lo zero i w c s f r h o = (h, o)
ordered_grow lo (suc k) i w c s f r h o = (h, o)

each_grow : (P : ℕ → Type 0) (k i w c s : ℕ) (f r : Hanging) → P i → Each P r → Each P (grow k i w c s f r)
each_grow P zero i w c s f r h l = (h, l)
each_grow P (suc k) i w c s f r h l = (h, l)

pub ordered_down : (lo lo' : ℕ) (x : Hanging) → lo ≤ lo' → Ordered lo' x → Ordered lo x
ordered_down lo lo' none h o = tt
ordered_down lo lo' (sink i w c s r) h o = (omega (arith, o.0), o.1)
ordered_down lo lo' (branch i w f r) h o = (omega (arith, o.0), o.1)

module _ {n : Net} (sound : SoundNet n) (v : ℕ) (P : ℕ → Type 0) (own : (j : ℕ) → j < places n → parent n j ≡ v → P j) where
  by_places : (l i : ℕ) → places n - i ≡ l → Ordered i (hanging n (places n - i) v) × Each P (hanging n (places n - i) v)
  by_places zero i e = rw (hanging_end n i v (omega arith)) (tt, tt)
  by_places (suc l) i e =
      let h : i < places n = omega arith in
      let ih : Ordered (suc i) (hanging n (places n - suc i) v) × Each P (hanging n (places n - suc i) v) = by_places l (suc i) (omega arith) in
      elim (ℕ_discrete (parent n i) v) [
        | yes q ↦ rw (grown sound i v h q) (
          ordered_grow i (kind n i) i (wire n i) (pin n i) (polarity n i) (under n i) (hanging n (places n - suc i) v) (omega arith) ih.0,
          each_grow P (kind n i) i (wire n i) (pin n i) (polarity n i) (under n i) (hanging n (places n - suc i) v) (own i h q) ih.1,
        )
        | no ne ↦ rw (hanging_skip n i v h ne) (ordered_down i (suc i) (hanging n (places n - suc i) v) (omega arith) ih.0, ih.1)
      ]

  pub hanging_each : (i : ℕ) → Each P (hanging n (places n - i) v)
  hanging_each i = (by_places (places n - i) i refl).1

  hanging_order : (i : ℕ) → Ordered i (hanging n (places n - i) v)
  hanging_order i = (by_places (places n - i) i refl).0

pub hanging_ordered : {n : Net} → SoundNet n → (v i : ℕ) → Ordered i (hanging n (places n - i) v)
hanging_ordered sound v i = hanging_order sound v (λ j. Unit {0}) (λ j h e. tt) i

pub hanging_ours : {n : Net} → SoundNet n → (v i : ℕ) → Each (λ j. parent n j ≡ v) (hanging n (places n - i) v)
hanging_ours {n} sound v i = hanging_each sound v (λ j. parent n j ≡ v) (λ j h e. e) i

-- ---- the invariant
pub record Pass (τ : Cell) (n : Net) (side₀ left₀ side left part : ℕ → ℕ) (offs : ℕ → List ℕ) (i : ℕ) : Type 0 where
  pub going : Going τ n side₀ left₀ side left offs i
  pub dealt : (u : ℕ) → u < i → kind n u ≡ 0 → Dealt τ part (side u) (left u) (hanging n (places n - i) u)
  pub fresh : (j : ℕ) → i ≤ parent n j → part j ≡ 0

pub pass_start : (τ : Cell) (n : Net) (side left part : ℕ → ℕ) (offs : ℕ → List ℕ) → kind n 0 ≡ 0 → side 0 ≤ 1 → Alive (acc τ (tree n) (side 0)) → Dealt τ part (side 0) (left 0) (tree n)
    → ((j : ℕ) → 1 ≤ parent n j → part j ≡ 0) → Pass τ n side left side left part offs 1
pass_start τ n side left part offs k l a d f = record {
  going = going_start τ n side left offs k l a;
  dealt = λ u h z. let q : 0 ≡ u = omega arith in subst (λ (u : ℕ). Dealt τ part (side u) (left u) (hanging n (places n - 1) u)) q d;
  fresh = f;
}

-- a wire's part, out of what was dealt to the wires from it on
pub record Part (τ : Cell) (n : Net) (p e i s : ℕ) : Type 0 where
  pub parts : Parts τ n p i
  pub most : s ≤ 2
  pub few : s ≤ e
  pub share : f3 s parts.a parts.b (min parts.a τ.cb) + parts.g (e - s) ≤ conv τ parts.a parts.b parts.g e

part_by : (τ : Cell) (n : Net) (p e i x : ℕ) (s : State) (z : Acc) → s ≡ lift_of τ n i p → z ≡ acc τ (hanging n (places n - suc i) (parent n i)) p → Takes τ s z e x → Part τ n p e i x
part_by τ n p e i x lost z es ez t = absurd t
part_by τ n p e i x (has m a b) fail es ez t = absurd t
part_by τ n p e i x (has m a b) (all M g) es ez t = record { parts = record { m = m; a = a; b = b; M = M; g = g; lifted = sym es; rest = sym ez }; most = t.0; few = t.1; share = t.2 }

dealt_grow : (τ : Cell) (n : Net) (part : ℕ → ℕ) (p e k i : ℕ) (r : Hanging) → kind n i ≡ k → Dealt τ part p e (grow k i (wire n i) (pin n i) (polarity n i) (under n i) r)
    → Takes τ (lift_of τ n i p) (acc τ r p) e (part i) × Dealt τ part p (e - part i) r
dealt_grow τ n part p e zero i r q d = rw q (d.0, d.1)
dealt_grow τ n part p e (suc k) i r q d = rw q (d.0, d.1)

module _ (τ : Cell) {n : Net} (sound : SoundNet n) {side₀ left₀ side left part : ℕ → ℕ} {offs : ℕ → List ℕ} {i : ℕ} (w : Pass τ n side₀ left₀ side left part offs i) (lo : 1 ≤ i) (h : i < places n) where
  lower : parent n i < i
  lower = sound.lower i lo h

  opened : Takes τ (lift_of τ n i (side (parent n i))) (acc τ (hanging n (places n - suc i) (parent n i)) (side (parent n i))) (left (parent n i)) (part i)
      × Dealt τ part (side (parent n i)) (left (parent n i) - part i) (hanging n (places n - suc i) (parent n i))
  opened =
      let v : ℕ = parent n i in
      dealt_grow τ n part (side v) (left v) (kind n i) i (hanging n (places n - suc i) v) refl
      (subst (Dealt τ part (side v) (left v)) (grown sound i v h refl) (w.dealt v lower (sound.no_sink i lo h)))

  -- the part of wire i is decided
  pub pass_part : Part τ n (side (parent n i)) (left (parent n i)) i (part i)
  pass_part = part_by τ n (side (parent n i)) (left (parent n i)) i (part i) _ _ refl refl opened.0

  pub pass_sense : side (parent n i) ≤ 1
  pass_sense = w.going.sense (parent n i) lower

  -- a wire of its node has none yet
  pub pass_fresh : (j : ℕ) → parent n j ≡ i → part j ≡ 0
  pass_fresh j q = w.fresh j (omega arith)

  -- one wire further: its node gets the surplus e, dealt out to its wires, and no other part is changed
  module _ {side' left' part' : ℕ → ℕ} {offs' : ℕ → List ℕ} (e n₀ h₀ : ℕ) (here : left' i ≡ e) (own : left' (parent n i) ≡ left (parent n i) - part i)
      (others : (u : ℕ) → (u ≡ i → ⊥) → (u ≡ parent n i → ⊥) → left' u ≡ left u) (sides : (u : ℕ) → (u ≡ i → ⊥) → side' u ≡ side u) (same : (j : ℕ) → j < i → offs' j ≡ offs j)
      (kept : (j : ℕ) → (parent n j ≡ i → ⊥) → part' j ≡ part j)
      (good : (t : Table) → t.offs i ≡ offs' i → t.cnt i ≡ pass_part.parts.m + part i → t.top i ≡ f3 (part i) pass_part.parts.a pass_part.parts.b (min pass_part.parts.a τ.cb)
      → t.n i ≡ n₀ → t.b i ≡ h₀ → WireOk τ n t (side (parent n i)) i (side' i) e (kind n i))
      (turned : side' i ≤ 1) (live : kind n i ≡ 0 → Alive (acc τ (under n i) (side' i))) (dealt : kind n i ≡ 0 → Dealt τ part' (side' i) e (under n i)) where
    -- the parts of another node's wires are as they were
    still : (u : ℕ) → (u ≡ i → ⊥) → (e : ℕ) → Dealt τ part (side u) e (hanging n (places n - suc i) u) → Dealt τ part' (side' u) e (hanging n (places n - suc i) u)
    still u ne e d =
        rw (sides u ne) (dealt_same τ (λ j. parent n j ≡ u) part part' (side u) e (hanging n (places n - suc i) u) (hanging_ours sound u (suc i)) (λ j q. sym (kept j (λ z. ne (sym q ∙ z)))) d)

    dealt' : (u : ℕ) → u < suc i → kind n u ≡ 0 → Dealt τ part' (side' u) (left' u) (hanging n (places n - suc i) u)
    dealt' u l k = elim (ℕ_discrete u i) [
      | yes q ↦ rw q (rw here (dealt (subst (λ (u : ℕ). kind n u ≡ 0) q k)))
      | no ne ↦ elim (ℕ_discrete u (parent n i)) [
        | yes q ↦ rw q (rw own (still (parent n i) (λ z. omega (arith, lower)) (left (parent n i) - part i) opened.1))
        | no np ↦ rw (others u ne np) (still u ne (left u) (subst (Dealt τ part (side u) (left u)) (hanging_skip n i u h (λ z. np (sym z))) (w.dealt u (omega arith) k)))
      ]
    ]

    pub pass_on : Pass τ n side₀ left₀ side' left' part' offs' (suc i)
    pass_on = record {
      going =
          let pt = pass_part.parts in
          going_on τ sound side₀ left₀ side left side' left' offs offs' i (part i) h lower (sound.no_sink i lo h) w.going pt.m pt.a pt.b pt.M pt.g pt.lifted pt.rest
          pass_part.few pass_part.share sides own others same n₀ h₀
          (λ t eo ec et en eb. subst (λ (e : ℕ). WireOk τ n t (side (parent n i)) i (side' i) e (kind n i)) (sym here) (good t eo ec et en eb)) turned live;
      dealt = dealt';
      fresh = λ j l. kept j (λ q. omega arith) ∙ w.fresh j (omega arith);
    }

-- at the end: a legal placement with at most N repeaters
pub pass_end : (τ : Cell) → τ.cu ≡ τ.cb + τ.D → 1 ≤ τ.D → {n : Net} {side₀ left₀ side left part : ℕ → ℕ} {offs : ℕ → List ℕ} {i : ℕ} → Pass τ n side₀ left₀ side left part offs i → places n ≤ i → side₀ 0 ≤ 1
    → (N h h₁ : ℕ) → close τ (2 * width (tree n)) (acc τ (tree n) (side₀ 0)) ≡ has N h h₁ → Budgeted (acc τ (tree n) (side₀ 0)) (left₀ 0) N h
    → Settled τ (side₀ 0) (tree n) (plan_of offs (tree n)) × (count (tree n) (plan_of offs (tree n)) ≤ N)
pass_end τ eq pos {n} {side₀} {left₀} {side} {left} {part} {offs} {i} w l p N h h₁ cl b =
    let g = w.going in
    finish τ eq pos n (record { offs = offs; cnt = g.cnt; top = g.top; n = g.nn; b = g.bb }) side₀ left₀ (side₀ 0) (left₀ 0) N h h₁ p refl refl cl b
    (going_end τ n side₀ left₀ side left offs i l g)
