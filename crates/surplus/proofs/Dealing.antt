-- A surplus dealt out along a chain: each wire takes its part in turn, and whatever is done from the next wire on, what was dealt makes the whole of it.
use Prim.Native.Nat.{ℕ, suc, ◌+◌, ◌-◌, ◌≤◌, ◌<◌, min}
use mathlib.Core.Path.{◌≡◌, refl, sym, subst, ◌∙◌}
use native.Mathlib.Omega.{arith}
use Rattle.rules.specs.Tree.{Hanging, none, sink, branch}
use Rattle.frontier.specs.Cell.{Cell}
use Rattle.frontier.specs.Frontier.{State, has, Acc, fail, all, conv, acc}
use Rattle.surplus.specs.Rows.{mixed, RowIs}
use Rattle.surplus.specs.Wires.{Alive, More, first, rest, tip, Ordered, Each}
use Rattle.surplus.specs.Pairs.{PairOf}
use Rattle.surplus.specs.Dealt.{f3, Shared, Takes, Dealt}
use Rattle.surplus.proofs.Reading.{conv_mixed}
use Rattle.surplus.proofs.Chains.{split, rest_alive, dealt_more, ordered_first, ordered_rest, each_first, each_rest}

-- ---- one wire's part
module _ (τ : Cell) where
  -- from the row of the wires after it
  pub takes_row : (h : ℕ → ℕ) (e m a b x : ℕ) (s : State) (z : Acc) → s ≡ has m a b → RowIs h z → Shared h e a b (min a τ.cb) x → Takes τ s z e x
  takes_row h e m a b x s fail q r d = absurd r
  takes_row h e m a b x s (all M g) q r d =
      subst (λ (s : State). Takes τ s (all M g) e x) (sym q)
      (d.few, d.le, rw (sym (conv_mixed τ a b g e)) (subst (λ (f : ℕ → ℕ). f3 x a b (min a τ.cb) + f (e - x) ≤ mixed f a b (min a τ.cb) e) (λ ι y. r y ι) d.fits))

  -- no surplus: no part
  pub takes_0 : (p : ℕ) (x : Hanging) → More x → Alive (acc τ x p) → Takes τ (tip τ p x) (acc τ (rest x) p) 0 0
  unfolding conv
  takes_0 p x h l =
      let s = split τ p x h l in
      let z : 0 - 0 ≡ 0 = omega arith in
      rw (s.own, s.after) (omega arith, omega arith, rw z (omega arith))

  -- a surplus of 1, by the two loads of the slot of the wires after it
  pub takes_1 : (c x y m a b : ℕ) (s : State) (z : Acc) → s ≡ has m a b → (c ≡ 0 → ⊥) → PairOf c x y z → b + x < a + y → Takes τ s z 1 1
  unfolding conv
  takes_1 c x y m a b s fail q ne r h = absurd (ne r)
  takes_1 c x y m a b s (all M g) q ne r h =
      let z : 1 - 1 ≡ 0 = omega arith in
      subst (λ (s : State). Takes τ s (all M g) 1 1) (sym q) (omega arith, omega arith, rw z (omega (arith, r.1, r.2)))

  pub takes_1_not : (c x y m a b : ℕ) (s : State) (z : Acc) → s ≡ has m a b → (c ≡ 0 → ⊥) → PairOf c x y z → a + y ≤ b + x → Takes τ s z 1 0
  unfolding conv
  takes_1_not c x y m a b s fail q ne r h = absurd (ne r)
  takes_1_not c x y m a b s (all M g) q ne r h =
      let z : 1 - 0 ≡ 1 = omega arith in
      subst (λ (s : State). Takes τ s (all M g) 1 0) (sym q) (omega arith, omega arith, rw z (omega (arith, r.1, r.2)))

  -- where there is no surplus and no part, all is dealt
  pub dealt_0 : (part : ℕ → ℕ) (p : ℕ) (x : Hanging) → Alive (acc τ x p) → Each (λ j. part j ≡ 0) x → Dealt τ part p 0 x
  dealt_0 part p none l q = tt
  dealt_0 part p (sink i w c s r) l q =
      let z : 0 - 0 ≡ 0 = omega arith in
      (rw q.0 (takes_0 p (sink i w c s r) tt l), rw (q.0, z) (dealt_0 part p r (rest_alive τ p (sink i w c s r) tt l) q.1))
  dealt_0 part p (branch i w f r) l q =
      let z : 0 - 0 ≡ 0 = omega arith in
      (rw q.0 (takes_0 p (branch i w f r) tt l), rw (q.0, z) (dealt_0 part p r (rest_alive τ p (branch i w f r) tt l) q.1))

each_from : (P : ℕ → Type 0) (Q : ℕ → Type 0) (lo : ℕ) (x : Hanging) → Ordered lo x → Each P x → ((j : ℕ) → lo ≤ j → P j → Q j) → Each Q x
each_from P Q lo none o l f = tt
each_from P Q lo (sink i w c s r) o l f = (f i o.0 l.0, each_from P Q (suc i) r o.1 l.1 (λ j h y. f j (omega (arith, o.0)) y))
each_from P Q lo (branch i w f r) o l g = (g i o.0 l.0, each_from P Q (suc i) r o.1 l.1 (λ j h y. g j (omega (arith, o.0)) y))

-- ---- under way: the wires x are left, from `lo` on, and `left` of the surplus e of the wires f; only wires of P were dealt any
pub record Dealing (τ : Cell) (P : ℕ → Type 0) (part₀ part : ℕ → ℕ) (p e : ℕ) (f : Hanging) (lo left : ℕ) (x : Hanging) : Type 0 where
  pub order : Ordered lo x
  pub ours : Each P x
  pub live : Alive (acc τ x p)
  pub kept : (j : ℕ) → (P j → ⊥) → part j ≡ part₀ j
  pub fresh : (j : ℕ) → lo ≤ j → part j ≡ part₀ j
  pub goal : (part' : ℕ → ℕ) → ((j : ℕ) → j < lo → part' j ≡ part j) → Dealt τ part' p left x → Dealt τ part' p e f

pub dealing_start : (τ : Cell) (P : ℕ → Type 0) (part : ℕ → ℕ) (p e : ℕ) (f : Hanging) (lo : ℕ) → Ordered lo f → Each P f → Alive (acc τ f p) → Dealing τ P part part p e f lo e f
dealing_start τ P part p e f lo o l a = record { order = o; ours = l; live = a; kept = λ j ne. refl; fresh = λ j h. refl; goal = λ part' q d. d }

module _ (τ : Cell) (P : ℕ → Type 0) {part₀ part part' : ℕ → ℕ} {p e : ℕ} {f : Hanging} {lo left : ℕ} {x : Hanging} (d : Dealing τ P part₀ part p e f lo left x) (h : More x) where
  -- the first wire takes s, and no other part is changed
  pub dealing_more : (s : ℕ) → Takes τ (tip τ p x) (acc τ (rest x) p) left s → part' (first x) ≡ s → ((j : ℕ) → (j ≡ first x → ⊥) → part' j ≡ part j) → Dealing τ P part₀ part' p e f (suc (first x)) (left - s) (rest x)
  dealing_more s t own other = record {
    order = ordered_rest lo x h d.order;
    ours = each_rest P x h d.ours;
    live = rest_alive τ p x h d.live;
    kept = λ j ne. other j (λ q. ne (subst P (sym q) (each_first P x h d.ours))) ∙ d.kept j ne;
    fresh = λ j l. other j (λ q. omega arith) ∙ d.fresh j (omega (arith, ordered_first lo x h d.order));
    goal = λ part'' q y.
        let lo' : lo ≤ first x = ordered_first lo x h d.order in
        let s' : s ≡ part'' (first x) = sym (q (first x) (omega arith) ∙ own) in
        d.goal part'' (λ j l. q j (omega arith) ∙ other j (λ z. omega arith))
        (dealt_more τ part'' p left x h (subst (Takes τ (tip τ p x) (acc τ (rest x) p) left) s' t) (subst (λ (k : ℕ). Dealt τ part'' p (left - k) (rest x)) s' y));
  }

module _ (τ : Cell) (P : ℕ → Type 0) {part₀ part : ℕ → ℕ} {p e : ℕ} {f : Hanging} {lo left : ℕ} {x : Hanging} (d : Dealing τ P part₀ part p e f lo left x) where
  -- the chain's end
  pub dealing_end : x ≡ none → Dealt τ part p e f
  dealing_end q = d.goal part (λ j l. refl) (subst (Dealt τ part p left) (sym q) tt)

  -- the surplus's end, where the wires that are left had no part before
  pub dealing_stop : left ≡ 0 → ((j : ℕ) → P j → part₀ j ≡ 0) → Dealt τ part p e f
  dealing_stop q z =
      d.goal part (λ j l. refl) (rw q (dealt_0 τ part p x d.live (each_from P (λ j. part j ≡ 0) lo x d.order d.ours (λ j l y. d.fresh j l ∙ z j y))))
