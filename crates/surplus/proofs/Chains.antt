-- A chain taken apart at its first wire.
use Prim.Native.Nat.{ℕ, suc, ◌+◌, ◌-◌, ◌≤◌}
use mathlib.Core.Path.{◌≡◌, refl, sym, subst, ◌∙◌}
use native.Mathlib.Omega.{arith}
use Rattle.rules.specs.Tree.{Hanging, none, sink, branch}
use Rattle.frontier.specs.Cell.{Cell}
use Rattle.frontier.specs.Frontier.{State, lost, has, Acc, fail, all, conv, join, acc, width}
use Rattle.surplus.specs.Wires.{Alive, More, first, rest, tip, Ordered, Each}
use Rattle.surplus.specs.Pairs.{Kept}
use Rattle.surplus.specs.Links.{Chain}
use Rattle.surplus.specs.Dealt.{Takes, Dealt}

module _ (τ : Cell) where
  pub acc_tip : (p : ℕ) (x : Hanging) → More x → acc τ x p ≡ join τ (tip τ p x) (acc τ (rest x) p)
  unfolding acc
  acc_tip p none h = absurd h
  acc_tip p (sink i w c s r) h = refl
  acc_tip p (branch i w f r) h = refl

  -- what is there of the first wire and of those after it
  pub record Split (p : ℕ) (x : Hanging) : Type 0 where
    pub m : ℕ
    pub a : ℕ
    pub b : ℕ
    pub M : ℕ
    pub g : ℕ → ℕ
    pub own : tip τ p x ≡ has m a b
    pub after : acc τ (rest x) p ≡ all M g
    pub whole : acc τ x p ≡ all (m + M) (conv τ a b g)

  split_by : (p : ℕ) (x : Hanging) (s : State) (z : Acc) → More x → s ≡ tip τ p x → z ≡ acc τ (rest x) p → Alive (join τ s z) → Split p x
  unfolding join
  split_by p x lost z h es ez l = absurd l
  split_by p x (has m a b) fail h es ez l = absurd l
  split_by p x (has m a b) (all M g) h es ez l = record { m = m; a = a; b = b; M = M; g = g; own = sym es; after = sym ez; whole = acc_tip p x h ∙ rw (sym es, sym ez) }

  pub split : (p : ℕ) (x : Hanging) → More x → Alive (acc τ x p) → Split p x
  split p x h l = split_by p x (tip τ p x) (acc τ (rest x) p) h refl refl (subst Alive (acc_tip p x h) l)

  pub rest_alive : (p : ℕ) (x : Hanging) → More x → Alive (acc τ x p) → Alive (acc τ (rest x) p)
  rest_alive p x h l = subst Alive (sym (split p x h l).after) tt

  module _ (next lo hi : ℕ → ℕ) (p : ℕ) where
    pub chain_none : (k : ℕ) (x : Hanging) → Chain τ next lo hi p k x → k ≡ 0 → x ≡ none
    chain_none k none c e = refl
    chain_none k (sink i w q s r) c e = absurd (omega (arith, c.0, c.1))
    chain_none k (branch i w f r) c e = absurd (omega (arith, c.0, c.1))

    pub chain_more : (k : ℕ) (x : Hanging) → Chain τ next lo hi p k x → (k ≡ 0 → ⊥) → More x
    chain_more k none c ne = ne c
    chain_more k (sink i w q s r) c ne = tt
    chain_more k (branch i w f r) c ne = tt

    -- the first wire is k, its loads are those kept of it, and its next one starts the rest
    pub chain_first : (k : ℕ) (x : Hanging) → Chain τ next lo hi p k x → (k ≡ 0 → ⊥) → first x ≡ k
    chain_first k none c ne = absurd (ne c)
    chain_first k (sink i w q s r) c ne = sym c.0
    chain_first k (branch i w f r) c ne = sym c.0

    pub chain_kept : (k : ℕ) (x : Hanging) → Chain τ next lo hi p k x → (k ≡ 0 → ⊥) → Kept (tip τ p x) (lo k) (hi k)
    chain_kept k none c ne = absurd (ne c)
    chain_kept k (sink i w q s r) c ne = rw c.0 c.2
    chain_kept k (branch i w f r) c ne = rw c.0 c.2

    pub chain_rest : (k : ℕ) (x : Hanging) → Chain τ next lo hi p k x → (k ≡ 0 → ⊥) → Chain τ next lo hi p (next k) (rest x)
    chain_rest k none c ne = absurd (ne c)
    chain_rest k (sink i w q s r) c ne = rw c.0 c.3
    chain_rest k (branch i w f r) c ne = rw c.0 c.3

    pub kept_loads : (k : ℕ) (x : Hanging) (m a b : ℕ) → Chain τ next lo hi p k x → (k ≡ 0 → ⊥) → tip τ p x ≡ has m a b → (lo k ≡ a) × (hi k ≡ b)
    kept_loads k x m a b c ne e = subst (λ (s : State). Kept s (lo k) (hi k)) e (chain_kept k x c ne)

  -- ---- the dealing, taken apart and put together
  pub dealt_first : (part : ℕ → ℕ) (p e : ℕ) (x : Hanging) → More x → Dealt τ part p e x → Takes τ (tip τ p x) (acc τ (rest x) p) e (part (first x))
  dealt_first part p e none h d = absurd h
  dealt_first part p e (sink i w c s r) h d = d.0
  dealt_first part p e (branch i w f r) h d = d.0

  pub dealt_rest : (part : ℕ → ℕ) (p e : ℕ) (x : Hanging) → More x → Dealt τ part p e x → Dealt τ part p (e - part (first x)) (rest x)
  dealt_rest part p e none h d = absurd h
  dealt_rest part p e (sink i w c s r) h d = d.1
  dealt_rest part p e (branch i w f r) h d = d.1

  pub dealt_more : (part : ℕ → ℕ) (p e : ℕ) (x : Hanging) → More x → Takes τ (tip τ p x) (acc τ (rest x) p) e (part (first x)) → Dealt τ part p (e - part (first x)) (rest x) → Dealt τ part p e x
  dealt_more part p e none h t d = absurd h
  dealt_more part p e (sink i w c s r) h t d = (t, d)
  dealt_more part p e (branch i w f r) h t d = (t, d)

  -- it depends on the parts of these wires alone
  pub dealt_same : (P : ℕ → Type 0) (part part' : ℕ → ℕ) (p e : ℕ) (x : Hanging) → Each P x → ((j : ℕ) → P j → part j ≡ part' j) → Dealt τ part p e x → Dealt τ part' p e x
  dealt_same P part part' p e none l q d = tt
  dealt_same P part part' p e (sink i w c s r) l q d =
      (rw (sym (q i l.0)) d.0, dealt_same P part part' p (e - part' i) r l.1 q (rw (sym (q i l.0)) d.1))
  dealt_same P part part' p e (branch i w f r) l q d =
      (rw (sym (q i l.0)) d.0, dealt_same P part part' p (e - part' i) r l.1 q (rw (sym (q i l.0)) d.1))

pub ordered_first : (lo : ℕ) (x : Hanging) → More x → Ordered lo x → lo ≤ first x
ordered_first lo none h o = absurd h
ordered_first lo (sink i w c s r) h o = o.0
ordered_first lo (branch i w f r) h o = o.0

pub ordered_rest : (lo : ℕ) (x : Hanging) → More x → Ordered lo x → Ordered (suc (first x)) (rest x)
ordered_rest lo none h o = absurd h
ordered_rest lo (sink i w c s r) h o = o.1
ordered_rest lo (branch i w f r) h o = o.1

pub each_first : (P : ℕ → Type 0) (x : Hanging) → More x → Each P x → P (first x)
each_first P none h l = absurd h
each_first P (sink i w c s r) h l = l.0
each_first P (branch i w f r) h l = l.0

pub each_rest : (P : ℕ → Type 0) (x : Hanging) → More x → Each P x → Each P (rest x)
each_rest P none h l = absurd h
each_rest P (sink i w c s r) h l = l.1
each_rest P (branch i w f r) h l = l.1

pub width_rest : (x : Hanging) → More x → width x ≡ suc (width (rest x))
width_rest none h = absurd h
width_rest (sink i w c s r) h = refl
width_rest (branch i w f r) h = refl
