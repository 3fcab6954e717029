-- The walk never writes more entries than the source's count: what is written, and what is still owed to the nodes that the walk has reached, stays within it.
use Prim.Native.Nat.{ℕ, zero, suc, ◌+◌, ◌-◌, ◌≤◌, ◌<◌, min}
use mathlib.Core.Path.{◌≡◌, refl, sym, subst, ap, ◌∙◌}
use mathlib.Core.List.{List}
use native.Mathlib.Omega.{arith}
use native.Mathlib.Decide.{ℕ_discrete}
use lib.ListN.{length}
use Rattle.rules.specs.Net.{Net, places, parent, kind}
use Rattle.rules.specs.Tree.{Hanging, hanging, under, tree}
use Rattle.rules.specs.Sound.{SoundNet}
use Rattle.rules.proofs.Hanging.{hanging_skip}
use Rattle.frontier.specs.Cell.{Cell}
use Rattle.frontier.specs.Frontier.{State, has, Acc, fail, all, acc, join}
use Rattle.frontier.specs.Cert.{Table}
use Rattle.surplus.specs.Dealt.{f3}
use Rattle.surplus.specs.Walk.{Within, WireOk, Parts}
use Rattle.surplus.proofs.Trees.{sums, acc_more}
use Rattle.surplus.proofs.Going.{upd, upd_same, upd_other}

-- the wires that are worth z, with a surplus of e, are owed k at most
abbrev pub Owing : Acc → ℕ → ℕ → Type 0
Owing fail e k = Unit {0}
Owing (all M g) e k = M + e ≤ k

pub record Spent (τ : Cell) (n : Net) (side left : ℕ → ℕ) (N i at : ℕ) : Type 0 where
  pub owed : ℕ → ℕ
  pub owes : (u : ℕ) → u < i → kind n u ≡ 0 → Owing (acc τ (hanging n (places n - i) u) (side u)) (left u) (owed u)
  pub total : at + sums owed i ≤ N

sums_same : (f g : ℕ → ℕ) (k : ℕ) → ((u : ℕ) → u < k → g u ≡ f u) → sums g k ≡ sums f k
unfolding sums
sums_same f g zero h = refl
sums_same f g (suc k) h = omega (arith, sums_same f g k (λ u l. h u (omega arith)), h k (omega arith))

-- one of them lowered by d
sums_less : (f g : ℕ → ℕ) (v d k : ℕ) → v < k → g v + d ≡ f v → ((u : ℕ) → u < k → (u ≡ v → ⊥) → g u ≡ f u) → sums g k + d ≡ sums f k
unfolding sums
sums_less f g v d zero h e o = absurd (omega arith)
sums_less f g v d (suc k) h e o = elim (ℕ_discrete v k) [
  | yes q ↦ let e' : g k + d ≡ f k = subst (λ (u : ℕ). g u + d ≡ f u) q e in omega (arith, sums_same f g k (λ u l. o u (omega arith) (λ z. omega arith)))
  | no ne ↦ omega (arith, sums_less f g v d k (omega arith) e (λ u l z. o u (omega arith) z), o k (omega arith) (λ z. ne (sym z)))
]

owing_within : (z : Acc) (e k : ℕ) → ((c l : ℕ) → Within z c l e → c ≤ k) → Owing z e k
owing_within fail e k f = tt
owing_within (all M g) e k f = f (M + e) (g e) (omega arith, omega arith)

pub spent_start : (τ : Cell) (n : Net) (side left : ℕ → ℕ) (N : ℕ) → Owing (acc τ (tree n) (side 0)) (left 0) N → Spent τ n side left N 1 0
unfolding sums
spent_start τ n side left N o = record {
  owed = λ u. N;
  owes = λ u l k. let q : 0 ≡ u = omega arith in subst (λ (u : ℕ). Owing (acc τ (hanging n (places n - 1) u) (side u)) (left u) N) q o;
  total = omega arith;
}

module _ (τ : Cell) {n : Net} (sound : SoundNet n) {side left side' left' : ℕ → ℕ} {N i at : ℕ} (w : Spent τ n side left N i at) (lo : 1 ≤ i) (h : i < places n) (s e n₀ h₀ : ℕ) (os : List ℕ)
    (pt : Parts τ n (side (parent n i)) i) (few : s ≤ left (parent n i))
    (sides : (u : ℕ) → (u ≡ i → ⊥) → side' u ≡ side u) (here : left' i ≡ e) (own : left' (parent n i) ≡ left (parent n i) - s) (others : (u : ℕ) → (u ≡ i → ⊥) → (u ≡ parent n i → ⊥) → left' u ≡ left u)
    (good : (t : Table) → t.offs i ≡ os → t.cnt i ≡ pt.m + s → t.top i ≡ f3 s pt.a pt.b (min pt.a τ.cb) → t.n i ≡ n₀ → t.b i ≡ h₀ → WireOk τ n t (side (parent n i)) i (side' i) e (kind n i)) where
  lower : parent n i < i
  lower = sound.lower i lo h

  -- what its parent's wires were owed
  whole : pt.m + pt.M + left (parent n i) ≤ w.owed (parent n i)
  unfolding join
  whole =
      let v : ℕ = parent n i in
      subst (λ (z : Acc). Owing z (left v) (w.owed v)) (sym (acc_more τ sound i (side v) h) ∙ ap (λ (x : State). join τ x (acc τ (hanging n (places n - suc i) v) (side v))) pt.lifted ∙ ap (join τ (has pt.m pt.a pt.b)) pt.rest)
      (w.owes v lower (sound.no_sink i lo h))

  table : Table
  table = record { offs = λ j. os; cnt = λ j. pt.m + s; top = λ j. f3 s pt.a pt.b (min pt.a τ.cb); n = λ j. n₀; b = λ j. h₀ }

  -- what its own node's wires are owed, beside its entries
  below : (κ : ℕ) → WireOk τ n table (side (parent n i)) i (side' i) e κ → (k : ℕ) × (k + length os ≤ pt.m + s) × (κ ≡ 0 → Owing (acc τ (under n i) (side' i)) e k)
  unfolding table
  below zero y = (n₀, y.1, λ z. owing_within (acc τ (under n i) (side' i)) e n₀ (λ c l x. (y.4 c l x).0))
  below (suc κ) y = (0, omega (arith, y.2), λ z. absurd (omega arith))

  node : (k : ℕ) × (k + length os ≤ pt.m + s) × (kind n i ≡ 0 → Owing (acc τ (under n i) (side' i)) e k)
  unfolding table
  node = below (kind n i) (good table refl refl refl refl refl)

  owed' : ℕ → ℕ
  owed' = upd (upd w.owed (parent n i) (w.owed (parent n i) - (pt.m + s))) i node.0

  at_own : owed' i ≡ node.0
  unfolding owed'
  at_own = upd_same (upd w.owed (parent n i) (w.owed (parent n i) - (pt.m + s))) i node.0

  at_parent : owed' (parent n i) ≡ w.owed (parent n i) - (pt.m + s)
  unfolding owed'
  at_parent = upd_other (upd w.owed (parent n i) (w.owed (parent n i) - (pt.m + s))) i node.0 (parent n i) (λ q. omega (arith, lower)) ∙ upd_same w.owed (parent n i) (w.owed (parent n i) - (pt.m + s))

  at_other : (u : ℕ) → (u ≡ i → ⊥) → (u ≡ parent n i → ⊥) → owed' u ≡ w.owed u
  unfolding owed'
  at_other u ne np = upd_other (upd w.owed (parent n i) (w.owed (parent n i) - (pt.m + s))) i node.0 u ne ∙ upd_other w.owed (parent n i) (w.owed (parent n i) - (pt.m + s)) u np

  owes' : (u : ℕ) → u < suc i → kind n u ≡ 0 → Owing (acc τ (hanging n (places n - suc i) u) (side' u)) (left' u) (owed' u)
  owes' u l k = elim (ℕ_discrete u i) [
    | yes q ↦ rw q (rw (here, at_own) (node.2 (subst (λ (u : ℕ). kind n u ≡ 0) q k)))
    | no ne ↦ elim (ℕ_discrete u (parent n i)) [
      | yes q ↦ rw q (rw (sides (parent n i) (λ z. omega (arith, lower)), own, at_parent, pt.rest) (omega (arith, whole)))
      | no np ↦ rw (sides u ne, others u ne np, at_other u ne np) (subst (λ (x : Hanging). Owing (acc τ x (side u)) (left u) (w.owed u)) (hanging_skip n i u h (λ z. np (sym z))) (w.owes u (omega arith) k))
    ]
  ]

  left_over : sums owed' i + (pt.m + s) ≡ sums w.owed i
  left_over = sums_less w.owed owed' (parent n i) (pt.m + s) i lower (omega (arith, at_parent, whole)) (λ u l np. at_other u (λ q. omega arith) np)

  -- there is room for its entries
  pub spent_room : at + length os ≤ N
  spent_room = omega (arith, left_over, w.total, node.1)

  pub spent_on : Spent τ n side' left' N (suc i) (at + length os)
  unfolding sums
  spent_on = record { owed = owed'; owes = owes'; total = omega (arith, left_over, w.total, node.1, at_own) }
