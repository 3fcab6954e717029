-- The links that the way up makes are the chains of the nodes' wires.
use Prim.Native.Nat.{ℕ, zero, suc, ◌-◌, ◌≤◌, ◌<◌, max}
use mathlib.Core.Path.{◌≡◌, refl, sym, subst, ◌∙◌}
use native.Mathlib.Omega.{arith}
use native.Mathlib.Decide.{ℕ_discrete, dec_le}
use Rattle.rules.specs.Net.{Net, places, parent, wire, kind, pin, polarity}
use Rattle.rules.specs.Tree.{Hanging, hanging, under}
use Rattle.rules.specs.Sound.{SoundNet}
use Rattle.rules.proofs.Hanging.{hanging_skip, hanging_end}
use Rattle.frontier.specs.Cell.{Cell}
use Rattle.surplus.specs.Wires.{lift_of}
use Rattle.surplus.specs.Pairs.{Kept}
use Rattle.surplus.specs.Links.{Chain, First, Links}
use Rattle.surplus.proofs.Trees.{grow, grown}

-- at the start all links are 0
pub links_start : (n : Net) (next head : ℕ → ℕ) → 1 ≤ places n → ((v : ℕ) → head v ≡ 0) → Links n next head (places n)
links_start n next head lo z = record {
  heads = λ v h.
      let m : max (places n) (suc v) ≡ places n = omega arith in
      rw m (record { low = omega (arith, z v); not = λ q. hanging_end n (places n) v (omega arith); from = λ q. absurd (omega (arith, z v)); ours = λ q. absurd (omega (arith, z v)); same = λ q. absurd (omega (arith, z v)) });
  nexts = λ j l h. absurd (omega arith);
}

-- wire i is linked before the wires after it
module _ {n : Net} {next head next' head' : ℕ → ℕ} {i : ℕ} (sound : SoundNet n) (lo : 1 ≤ i) (h : i < places n) (w : Links n next head (suc i))
    (here : next' i ≡ head (parent n i)) (others : (j : ℕ) → (j ≡ i → ⊥) → next' j ≡ next j) (front : head' (parent n i) ≡ i) (heads-kept : (v : ℕ) → (v ≡ parent n i → ⊥) → head' v ≡ head v) where
  lower : parent n i < i
  lower = sound.lower i lo h

  skip : (v k : ℕ) → v ≤ i → (v ≡ parent n i → ⊥) → First n (max (suc i) (suc v)) v k → First n (max i (suc v)) v k
  skip v k l ne f = elim (ℕ_discrete v i) [
    | yes q ↦ let e : max (suc i) (suc v) ≡ max i (suc v) = omega arith in subst (λ (z : ℕ). First n z v k) e f
    | no nv ↦
        let e : max (suc i) (suc v) ≡ suc i = omega arith in
        let d : max i (suc v) ≡ i = omega arith in
        let g : First n (suc i) v k = subst (λ (z : ℕ). First n z v k) e f in
        let s : hanging n (places n - i) v ≡ hanging n (places n - suc i) v = hanging_skip n i v h (λ z. ne (sym z)) in
        subst (λ (z : ℕ). First n z v k) (sym d) (record { low = g.low; not = λ z. s ∙ g.not z; from = λ z. omega (arith, g.from z); ours = g.ours; same = λ z. s ∙ g.same z })
  ]

  past : (v k : ℕ) → i < v → First n (max (suc i) (suc v)) v k → First n (max i (suc v)) v k
  past v k l f = let e : max (suc i) (suc v) ≡ max i (suc v) = omega arith in subst (λ (z : ℕ). First n z v k) e f

  own : First n (max i (suc (parent n i))) (parent n i) i
  own =
      let e : max i (suc (parent n i)) ≡ i = omega (arith, lower) in
      subst (λ (z : ℕ). First n z (parent n i) i) (sym e) (record { low = h; not = λ z. absurd (omega arith); from = λ z. omega arith; ours = λ z. refl; same = λ z. refl })

  pub links_more : Links n next' head' i
  links_more = record {
    heads = λ v l. elim (ℕ_discrete v (parent n i)) [
      | yes q ↦ rw (q, front) own
      | no ne ↦ rw (heads-kept v ne) (elim (dec_le v i) [ yes y ↦ skip v (head v) y ne (w.heads v l) | no y ↦ past v (head v) (omega arith) (w.heads v l) ])
    ];
    nexts = λ j l g. elim (ℕ_discrete j i) [
      | yes q ↦
          let e : max (suc i) (suc (parent n i)) ≡ suc i = omega (arith, lower) in
          rw (q, here) (subst (λ (z : ℕ). First n z (parent n i) (head (parent n i))) e (w.heads (parent n i) (omega (arith, lower))))
      | no ne ↦ rw (others j ne) (w.nexts j (omega arith) g)
    ];
  }

-- ---- the chain from the first wire on
chain_grow : (τ : Cell) (n : Net) (next lo hi : ℕ → ℕ) (p κ k : ℕ) (r : Hanging) → kind n k ≡ κ → 1 ≤ k → Kept (lift_of τ n k p) (lo k) (hi k) → Chain τ next lo hi p (next k) r
    → Chain τ next lo hi p k (grow κ k (wire n k) (pin n k) (polarity n k) (under n k) r)
chain_grow τ n next lo hi p zero k r q l y c = (refl, l, rw q at y, c)
chain_grow τ n next lo hi p (suc κ) k r q l y c = (refl, l, rw q at y, c)

-- from the wires that are linked
module _ (τ : Cell) {n : Net} (sound : SoundNet n) {next head : ℕ → ℕ} {i₀ : ℕ} (w : Links n next head i₀) (lo hi : ℕ → ℕ) (p : ℕ)
    (kept : (j : ℕ) → i₀ ≤ j → 1 ≤ j → j < places n → Kept (lift_of τ n j p) (lo j) (hi j)) where
  pub chain_by : (l i v k : ℕ) → i₀ ≤ i → places n - i ≤ l → First n i v k → Chain τ next lo hi p k (hanging n (places n - i) v)
  chain_by zero i v k g e f = elim (ℕ_discrete k 0) [
    | yes q ↦ rw (f.not q, q)
    | no ne ↦ absurd (omega (arith, f.from (omega arith), f.low))
  ]
  chain_by (suc l) i v k g e f = elim (ℕ_discrete k 0) [
    | yes q ↦ rw (f.not q, q)
    | no ne ↦
        let z : 1 ≤ k = omega arith in
        let y : i ≤ k = f.from z in
        let r : Chain τ next lo hi p (next k) (hanging n (places n - suc k) v) =
        chain_by l (suc k) v (next k) (omega arith) (omega (arith, f.low)) (subst (λ (u : ℕ). First n (suc k) u (next k)) (f.ours z) (w.nexts k (omega arith) f.low)) in
        rw (f.same z ∙ grown sound k v f.low (f.ours z)) (chain_grow τ n next lo hi p (kind n k) k (hanging n (places n - suc k) v) refl z (kept k (omega arith) z f.low) r)
  ]
