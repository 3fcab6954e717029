-- The rows of an overfull node, made again from its wires: that of k wires at the square of k, each out of the one before it.
use Prim.Native.Nat.{ℕ, zero, suc, ◌+◌, ◌*◌, ◌≤◌, ◌<◌, min}
use mathlib.Core.Path.{◌≡◌, refl, sym, subst, ap, ◌∙◌}
use mathlib.Core.List.{List}
use native.Mathlib.Omega.{arith}
use native.Mathlib.Decide.{dec_le}
use lib.ListN.{get_or}
use Rattle.rules.specs.Tree.{Hanging, none, sink, branch}
use Rattle.frontier.specs.Cell.{Cell}
use Rattle.frontier.specs.Frontier.{State, lost, has, Acc, fail, all, conv, join, acc, width}
use Rattle.surplus.specs.Rows.{load_at, mixed, Mixed, FirstFit, RowIs, Spread}
use Rattle.surplus.specs.Wires.{Alive, More, rest, tip}
use Rattle.surplus.specs.Pairs.{NearOf}
use Rattle.surplus.proofs.Reading.{load_within, load_past, conv_mixed}
use Rattle.surplus.proofs.Chains.{split, width_rest}

-- the loads no longer fall past twice the wires
flat_mixed : (τ : Cell) (a b last : ℕ) (g : ℕ → ℕ) → ((e : ℕ) → last ≤ e → g e ≡ g last) → (e : ℕ) → last + 2 ≤ e → conv τ a b g e ≡ conv τ a b g (suc (suc last))
unfolding conv
flat_mixed τ a b last g f zero h = absurd (omega arith)
flat_mixed τ a b last g f (suc zero) h = absurd (omega arith)
flat_mixed τ a b last g f (suc (suc e)) h =
    rw (f (suc (suc e)) (omega arith), f (suc e) (omega arith), f e (omega arith), f (suc (suc last)) (omega arith), f (suc last) (omega arith))

abbrev Flat : ℕ → Acc → Type 0
Flat last fail = Unit {0}
Flat last (all m g) = (e : ℕ) → last ≤ e → g e ≡ g last

flat_join : (τ : Cell) (last : ℕ) (s : State) (z : Acc) → Flat last z → Flat (suc (suc last)) (join τ s z)
unfolding join
flat_join τ last lost z f = tt
flat_join τ last (has m a b) fail f = tt
flat_join τ last (has m a b) (all M g) f = λ e h. flat_mixed τ a b last g f e (omega arith)

acc_flat : (τ : Cell) (x : Hanging) (p : ℕ) → Flat (2 * width x) (acc τ x p)
unfolding acc
acc_flat τ none p = λ e h. refl
acc_flat τ (sink i w c s r) p =
    let q : suc (suc (2 * width r)) ≡ 2 * suc (width r) = omega arith in
    subst (λ (d : ℕ). Flat d (acc τ (sink i w c s r) p)) q (flat_join τ (2 * width r) (tip τ p (sink i w c s r)) (acc τ r p) (acc_flat τ r p))
acc_flat τ (branch i w f r) p =
    let q : suc (suc (2 * width r)) ≡ 2 * suc (width r) = omega arith in
    subst (λ (d : ℕ). Flat d (acc τ (branch i w f r) p)) q (flat_join τ (2 * width r) (tip τ p (branch i w f r)) (acc τ r p) (acc_flat τ r p))

-- the row of k wires is 2 * k + 1 long, and the next one stands past it
pub square_suc : (k : ℕ) → suc k * suc k ≡ k * k + (2 * k + 1)
square_suc k = omega arith

pub below : (k j : ℕ) → k < j → k * k + (2 * k + 1) ≤ j * j
below k zero h = absurd (omega arith)
below k (suc j) h = elim (dec_le j k) [
  | yes q ↦ let e : j ≡ k = omega arith in rw e (omega (arith, square_suc k))
  | no q ↦ omega (arith, below k j (omega arith), square_suc j)
]

module _ (τ : Cell) where
  -- what is read of a row is below the next one
  same_row : (t u : List ℕ) (k j : ℕ) → k < j → ((i : ℕ) → i < j * j → get_or u i 0 ≡ get_or t i 0) → (z : Acc) → RowIs (load_at t (k * k) (2 * k)) z → RowIs (load_at u (k * k) (2 * k)) z
  same_row t u k j h q fail r = r
  same_row t u k j h q (all m g) r = λ e. q (k * k + min e (2 * k)) (omega (arith, below k j h)) ∙ r e

  -- rows further on change none before them
  spread_kept : (t u : List ℕ) (p j : ℕ) (x : Hanging) → width x < j → ((i : ℕ) → i < j * j → get_or u i 0 ≡ get_or t i 0) → Spread τ t p x → Spread τ u p x
  spread_kept t u p j none h q d = same_row t u 0 j h q (acc τ none p) d
  spread_kept t u p j (sink i w c s r) h q d = (same_row t u (suc (width r)) j h q (acc τ (sink i w c s r) p) d.0, spread_kept t u p j r (omega arith) q d.1)
  spread_kept t u p j (branch i w f r) h q d = (same_row t u (suc (width r)) j h q (acc τ (branch i w f r) p) d.0, spread_kept t u p j r (omega arith) q d.1)

  -- no wire: one load, 0
  pub spread_none : (t : List ℕ) (p : ℕ) → get_or t 0 0 ≡ 0 → Spread τ t p none
  unfolding acc
  spread_none t p h = λ e. let q : 0 + min e 0 ≡ 0 = omega arith in rw q h

  -- the row of the whole
  pub spread_row : (t : List ℕ) (p : ℕ) (x : Hanging) → Spread τ t p x → RowIs (load_at t (width x * width x) (2 * width x)) (acc τ x p)
  spread_row t p none d = d
  spread_row t p (sink i w c s r) d = d.0
  spread_row t p (branch i w f r) d = d.0

  pub spread_rest : (t : List ℕ) (p : ℕ) (x : Hanging) → More x → Spread τ t p x → Spread τ t p (rest x)
  spread_rest t p none h d = absurd h
  spread_rest t p (sink i w c s r) h d = d.1
  spread_rest t p (branch i w f r) h d = d.1

  put : (t : List ℕ) (p : ℕ) (x : Hanging) → More x → RowIs (load_at t (suc (width (rest x)) * suc (width (rest x))) (2 * suc (width (rest x)))) (acc τ x p) → Spread τ t p (rest x) → Spread τ t p x
  put t p none h r d = absurd h
  put t p (sink i w c s r) h z d = (z, d)
  put t p (branch i w f r) h z d = (z, d)

  -- one wire more
  pub spread_more : (t u : List ℕ) (p : ℕ) (x : Hanging) (m a b : ℕ) → More x → Alive (acc τ x p) → tip τ p x ≡ has m a b → Spread τ t p (rest x)
      → Mixed t u (width (rest x) * width (rest x)) (2 * width (rest x)) (suc (width (rest x)) * suc (width (rest x))) a b (min a τ.cb) → Spread τ u p x
  spread_more t u p x m a b h l e d q =
      let s = split τ p x h l in
      let k : ℕ = width (rest x) in
      let ea : s.a ≡ a = cc in
      let eb : s.b ≡ b = cc in
      let old : (e : ℕ) → load_at t (k * k) (2 * k) e ≡ s.g e = subst (RowIs (load_at t (k * k) (2 * k))) s.after (spread_row t p (rest x) d) in
      let row : RowIs (load_at u (suc k * suc k) (2 * suc k)) (all (s.m + s.M) (conv τ s.a s.b s.g)) = λ e. elim (dec_le e (2 * suc k)) [
        | yes y ↦ sym (load_within u (suc k * suc k) (2 * suc k) e y) ∙ q.row e (omega arith) ∙ made k a b s.a s.b s.g old ea eb e
        | no y ↦ sym (load_past u (suc k * suc k) (2 * suc k) e (omega arith)) ∙ q.row (2 * suc k) (omega arith) ∙ made k a b s.a s.b s.g old ea eb (2 * suc k)
            ∙ sym (subst (Flat (2 * suc k)) s.whole (let w : 2 * width x ≡ 2 * suc k = omega (arith, width_rest x h) in subst (λ (c : ℕ). Flat c (acc τ x p)) w (acc_flat τ x p)) e (omega arith))
      ] in
      put u p x h (subst (RowIs (load_at u (suc k * suc k) (2 * suc k))) (sym s.whole) row) (spread_kept t u p (suc k) (rest x) (omega arith) q.before d)
    where
      made : (k a b a' b' : ℕ) (g : ℕ → ℕ) → ((e : ℕ) → load_at t (k * k) (2 * k) e ≡ g e) → a' ≡ a → b' ≡ b → (e : ℕ) → mixed (load_at t (k * k) (2 * k)) a b (min a τ.cb) e ≡ conv τ a' b' g e
      made k a b a' b' g old ea eb e = rw (ea, eb) (ap (λ (f : ℕ → ℕ). mixed f a b (min a τ.cb) e) (λ ι y. old y ι) ∙ conv_mixed τ a b g e)

-- ---- the first fit of such a row is the node's surplus
pub near_row : (τ : Cell) (t : List ℕ) (at last e : ℕ) (z : Acc) → RowIs (load_at t at last) z → FirstFit t at last τ.cu e → e ≤ last
    → NearOf τ last z (load_at t at last e) (min (load_at t at last e) (load_at t at last (suc e))) (suc e)
near_row τ t at last e fail r f h = absurd r
near_row τ t at last e (all m g) r f h =
    (h, record { over = λ k l. omega (arith, r k, f.over k l); fits = omega (arith, r e, f.fits h) }, r e, rw (r e, r (suc e)))

pub near_row_none : (τ : Cell) (t : List ℕ) (at last e h h₁ : ℕ) (z : Acc) → RowIs (load_at t at last) z → FirstFit t at last τ.cu e → last < e → NearOf τ last z h h₁ 0
near_row_none τ t at last e h h₁ fail r f l = absurd r
near_row_none τ t at last e h h₁ (all m g) r f l = λ k q. omega (arith, r k, f.over k (omega arith))
