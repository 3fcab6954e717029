-- The walk's invariant: whatever is done from wire i on, what was settled before makes the whole of it.
use Prim.Native.Nat.{ℕ, zero, suc, ◌+◌, ◌-◌, ◌≤◌, ◌<◌, min}
use mathlib.Core.Path.{◌≡◌, refl, sym, subst, ap, ◌∙◌}
use mathlib.Core.List.{List}
use native.Mathlib.Omega.{arith}
use native.Mathlib.Decide.{ℕ_discrete}
use Rattle.rules.specs.Net.{Net, places, parent, wire, kind, pin, polarity}
use Rattle.rules.specs.Tree.{Hanging, hanging}
use Rattle.rules.specs.Sound.{SoundNet}
use Rattle.rules.proofs.Hanging.{hanging_skip}
use Rattle.frontier.specs.Cell.{Cell}
use Rattle.frontier.specs.Frontier.{State, lost, has, Acc, fail, all, acc, join, conv}
use Rattle.frontier.specs.Cert.{Table}
use Rattle.surplus.specs.Wires.{lift_of, Alive}
use Rattle.surplus.specs.Dealt.{f3}
use Rattle.surplus.specs.Walk.{WireOk, Parts}
use Rattle.surplus.proofs.Trees.{grown, acc_grow}
use Rattle.surplus.proofs.Walking.{Done, step_down}
use Rattle.surplus.proofs.Ending.{done_end}

-- a function with one value changed
sel : {A : Type 0} → ℕ → A → A → A
sel zero x y = x
sel (suc z) x y = y

pub upd : {A : Type 0} → (ℕ → A) → ℕ → A → ℕ → A
upd f i x j = sel ((j - i) + (i - j)) x (f j)

pub upd_same : {A : Type 0} (f : ℕ → A) (i : ℕ) (x : A) → upd f i x i ≡ x
unfolding upd sel
upd_same f i x = let z : (i - i) + (i - i) ≡ 0 = omega arith in rw z

pub upd_other : {A : Type 0} (f : ℕ → A) (i : ℕ) (x : A) (j : ℕ) → (j ≡ i → ⊥) → upd f i x j ≡ f j
unfolding upd sel
upd_other f i x j ne = let z : (j - i) + (i - j) ≡ suc (((j - i) + (i - j)) - 1) = omega arith in rw z

-- the table says of wire j what was settled
pub record Agree (t : Table) (os : ℕ → List ℕ) (ct tp nn bb : ℕ → ℕ) (j : ℕ) : Type 0 where
  pub offs : t.offs j ≡ os j
  pub cnt : t.cnt j ≡ ct j
  pub top : t.top j ≡ tp j
  pub n : t.n j ≡ nn j
  pub b : t.b j ≡ bb j

pub record Going (τ : Cell) (n : Net) (side₀ left₀ side left : ℕ → ℕ) (offs : ℕ → List ℕ) (i : ℕ) : Type 0 where
  pub cnt : ℕ → ℕ
  pub top : ℕ → ℕ
  pub nn : ℕ → ℕ
  pub bb : ℕ → ℕ
  pub sense : (u : ℕ) → u < i → side u ≤ 1
  pub alive : (u : ℕ) → u < i → kind n u ≡ 0 → Alive (acc τ (hanging n (places n - i) u) (side u))
  pub goal : (t : Table) → ((j : ℕ) → j < i → Agree t offs cnt top nn bb j) → ((u : ℕ) → u < i → kind n u ≡ 0 → Done τ n t side left i u) → Done τ n t side₀ left₀ 1 0

pub going_start : (τ : Cell) (n : Net) (side left : ℕ → ℕ) (offs : ℕ → List ℕ) → kind n 0 ≡ 0 → side 0 ≤ 1 → Alive (acc τ (hanging n (places n - 1) 0) (side 0)) → Going τ n side left side left offs 1
going_start τ n side left offs k l a = record {
  cnt = λ j. 0;
  top = λ j. 0;
  nn = λ j. 0;
  bb = λ j. 0;
  sense = λ u h. let q : 0 ≡ u = omega arith in subst (λ (v : ℕ). side v ≤ 1) q l;
  alive = λ u h z. let q : 0 ≡ u = omega arith in subst (λ (v : ℕ). Alive (acc τ (hanging n (places n - 1) v) (side v))) q a;
  goal = λ t g d. d 0 (omega arith) k;
}

-- ---- what is there of a wire and of the wires after it
split : (τ : Cell) (n : Net) (p i : ℕ) (s : State) (y : Acc) → s ≡ lift_of τ n i p → y ≡ acc τ (hanging n (places n - suc i) (parent n i)) p → Alive (join τ s y) → Parts τ n p i
unfolding join
split τ n p i lost y es ey h = absurd h
split τ n p i (has m a b) fail es ey h = absurd h
split τ n p i (has m a b) (all M g) es ey h = record { m = m; a = a; b = b; M = M; g = g; lifted = sym es; rest = sym ey }

module _ (τ : Cell) {n : Net} (sound : SoundNet n) (side₀ left₀ side left side' left' : ℕ → ℕ) (offs offs' : ℕ → List ℕ) (i s : ℕ)
    (h : i < places n) (lo : parent n i < i) (under : kind n (parent n i) ≡ 0) where
  -- what the wire i and the wires after it under its parent are worth
  pub parts : Going τ n side₀ left₀ side left offs i → Parts τ n (side (parent n i)) i
  parts w =
      split τ n (side (parent n i)) i _ _ refl refl (subst Alive
      (ap (λ (f : Hanging). acc τ f (side (parent n i))) (grown sound i (parent n i) h refl)
      ∙ acc_grow τ (kind n i) i (wire n i) (pin n i) (polarity n i) (hanging n (places n - suc i) i) (hanging n (places n - suc i) (parent n i)) (side (parent n i)))
      (w.alive (parent n i) lo under))

  module _ (w : Going τ n side₀ left₀ side left offs i) (m a b M : ℕ) (g : ℕ → ℕ)
      (lifted : lift_of τ n i (side (parent n i)) ≡ has m a b) (rest : acc τ (hanging n (places n - suc i) (parent n i)) (side (parent n i)) ≡ all M g)
      (few : s ≤ left (parent n i)) (share : f3 s a b (min a τ.cb) + g (left (parent n i) - s) ≤ conv τ a b g (left (parent n i)))
      (sides : (u : ℕ) → (u ≡ i → ⊥) → side' u ≡ side u) (own : left' (parent n i) ≡ left (parent n i) - s) (others : (u : ℕ) → (u ≡ i → ⊥) → (u ≡ parent n i → ⊥) → left' u ≡ left u)
      (same : (j : ℕ) → j < i → offs' j ≡ offs j) (n₀ h₀ : ℕ)
      (good : (t : Table) → t.offs i ≡ offs' i → t.cnt i ≡ m + s → t.top i ≡ f3 s a b (min a τ.cb) → t.n i ≡ n₀ → t.b i ≡ h₀ → WireOk τ n t (side (parent n i)) i (side' i) (left' i) (kind n i))
      (turned : side' i ≤ 1) (live : kind n i ≡ 0 → Alive (acc τ (hanging n (places n - suc i) i) (side' i))) where
    older : (t : Table) → ((j : ℕ) → j < suc i → Agree t offs' (upd w.cnt i (m + s)) (upd w.top i (f3 s a b (min a τ.cb))) (upd w.nn i n₀) (upd w.bb i h₀) j)
        → (j : ℕ) → j < i → Agree t offs w.cnt w.top w.nn w.bb j
    older t y j l =
        let q = y j (omega arith) in
        record {
          offs = q.offs ∙ same j l;
          cnt = q.cnt ∙ upd_other w.cnt i (m + s) j (λ q. omega arith);
          top = q.top ∙ upd_other w.top i (f3 s a b (min a τ.cb)) j (λ q. omega arith);
          n = q.n ∙ upd_other w.nn i n₀ j (λ q. omega arith);
          b = q.b ∙ upd_other w.bb i h₀ j (λ q. omega arith);
        }

    still : (u : ℕ) → u < suc i → kind n u ≡ 0 → Alive (acc τ (hanging n (places n - suc i) u) (side' u))
    still u l k = elim (ℕ_discrete u i) [
      | yes e ↦ subst (λ (v : ℕ). Alive (acc τ (hanging n (places n - suc i) v) (side' v))) (sym e) (live (subst (λ (v : ℕ). kind n v ≡ 0) e k))
      | no ne ↦ subst (λ (q : ℕ). Alive (acc τ (hanging n (places n - suc i) u) q)) (sym (sides u ne)) (elim (ℕ_discrete u (parent n i)) [
        | yes e ↦ subst (λ (v : ℕ). Alive (acc τ (hanging n (places n - suc i) v) (side v))) (sym e) (subst Alive (sym rest) tt)
        | no np ↦ subst (λ (f : Hanging). Alive (acc τ f (side u))) (hanging_skip n i u h (λ z. np (sym z))) (w.alive u (omega arith) k)
      ])
    ]

    pub going_on : Going τ n side₀ left₀ side' left' offs' (suc i)
    going_on = record {
      cnt = upd w.cnt i (m + s);
      top = upd w.top i (f3 s a b (min a τ.cb));
      nn = upd w.nn i n₀;
      bb = upd w.bb i h₀;
      sense = λ u l. elim (ℕ_discrete u i) [ yes e ↦ subst (λ (v : ℕ). side' v ≤ 1) (sym e) turned | no ne ↦ rw (sides u ne) (w.sense u (omega arith)) ];
      alive = still;
      goal = λ t y d.
          let q = y i (omega arith) in
          let ec = q.cnt ∙ upd_same w.cnt i (m + s) in
          let et = q.top ∙ upd_same w.top i (f3 s a b (min a τ.cb)) in
          let ok = good t q.offs ec et (q.n ∙ upd_same w.nn i n₀) (q.b ∙ upd_same w.bb i h₀) in
          w.goal t (older t y) (step_down τ sound t side left side' left' i s m a b M g h lo lifted rest few share sides own others ec et ok d under);
    }

-- at the end: a table with the walk's offsets of which all is done
pub going_end : (τ : Cell) (n : Net) (side₀ left₀ side left : ℕ → ℕ) (offs : ℕ → List ℕ) (i : ℕ) → places n ≤ i → (w : Going τ n side₀ left₀ side left offs i)
    → Done τ n (record { offs = offs; cnt = w.cnt; top = w.top; n = w.nn; b = w.bb }) side₀ left₀ 1 0
going_end τ n side₀ left₀ side left offs i h w =
    w.goal (record { offs = offs; cnt = w.cnt; top = w.top; n = w.nn; b = w.bb }) (λ j l. record { offs = refl; cnt = refl; top = refl; n = refl; b = refl })
    (λ u l k. done_end τ n (record { offs = offs; cnt = w.cnt; top = w.top; n = w.nn; b = w.bb }) side left i u h)
