-- A judgement at each of some numbers in a row: what its end says of each, and how a loop goes through it.
use Rattle.std.specs.Prelude.{Ok, Err}
use Prim.Native.Nat.{ℕ, zero, suc, ◌+◌, ◌-◌, ◌≤◌, ◌<◌}
use mathlib.Core.Path.{◌≡◌, refl, sym, ap, ◌∙◌}
use native.Mathlib.Omega.{arith}
use native.Mathlib.Decide.{ℕ_discrete}
use native.Mathlib.Numerals.{add-one}
use Rattle.rules.specs.declared.Refusal.{Refusal}
use Rattle.rules.specs.Judged.{Judged}
use Rattle.rules.specs.Judge.{then_judge, judge_each}
use Rattle.rules.proofs.Tests.{then_met}

-- where it ends in Sound each of them does
pub each_met : (f : ℕ → Judged) (k i : ℕ) → judge_each f k i ≡ (Ok tt) → (j : ℕ) → i ≤ j → j < i + k → f j ≡ (Ok tt)
unfolding judge_each
each_met f zero i e j lo hi = absurd (omega arith)
each_met f (suc k) i e j lo hi =
    let (here, rest) = then_met (f i) (judge_each f k (suc i)) e in
    elim (ℕ_discrete j i) [ yes q ↦ rw q here | no q ↦ each_met f k (suc i) rest j (omega arith) (omega arith) ]

-- and the other way round
pub each_sound : (f : ℕ → Judged) (k i : ℕ) → ((j : ℕ) → i ≤ j → j < i + k → f j ≡ (Ok tt)) → judge_each f k i ≡ (Ok tt)
unfolding judge_each
each_sound f zero i h = refl
each_sound f (suc k) i h = rw (h i (omega arith) (omega arith)) (each_sound f k (suc i) (λ j lo hi. h j (omega arith) (omega arith)))

-- and it goes by the values of f at these numbers alone
pub each_same : (f g : ℕ → Judged) (k i : ℕ) → ((j : ℕ) → i ≤ j → j < i + k → f j ≡ g j) → judge_each f k i ≡ judge_each g k i
unfolding judge_each
each_same f g zero i h = refl
each_same f g (suc k) i h = rw (h i (omega arith) (omega arith), each_same f g k (suc i) (λ j lo hi. h j (omega arith) (omega arith)))

-- j is the first of k numbers from i on at which f refuses, and r is why
pub record First (f : ℕ → Judged) (k i j : ℕ) (r : Refusal) : Type 0 where
  pub low : i ≤ j
  pub high : j < i + k
  pub before : (m : ℕ) → i ≤ m → m < j → f m ≡ (Ok tt)
  pub here : f j ≡ Err r

pub first_refused : (f : ℕ → Judged) (k i j : ℕ) {r : Refusal} → First f k i j r → judge_each f k i ≡ Err r
unfolding judge_each
first_refused f zero i j h = absurd (omega (arith, h.low, h.high))
first_refused f (suc k) i j {r} h = elim (ℕ_discrete i j) [
  | yes q ↦ let e : f i ≡ Err r = ap f q ∙ h.here in rw e
  | no q ↦ rw (h.before i (omega arith) (omega (arith, h.low))) (first_refused f k (suc i) j (record { low = omega (arith, h.low); high = omega (arith, h.high); before = λ m lo hi. h.before m (omega arith) hi; here = h.here }))
]

pub refused_first : (f : ℕ → Judged) (k i : ℕ) {r : Refusal} → judge_each f k i ≡ Err r → (j : ℕ) × First f k i j r
unfolding judge_each
refused_first f zero i e = absurd (let z : ◌≡◌ {A = ℕ} 0 1 = cc in omega arith)
refused_first f (suc k) i {r} e = go (λ g. refused_first f k (suc i) g) (f i) refl e
  where
    go : (judge_each f k (suc i) ≡ Err r → (j : ℕ) × First f k (suc i) j r) → (x : Judged) → f i ≡ x → then_judge x (judge_each f k (suc i)) ≡ Err r → (j : ℕ) × First f (suc k) i j r
    go more (Err y) q g = (i, record { low = omega arith; high = omega arith; before = λ m lo hi. absurd (omega arith); here = q ∙ g })
    go more (Ok tt) q g =
        let (j, h) = more g in (
          j,
          record {
            low = omega (arith, h.low);
            high = omega (arith, h.high);
            before = λ m lo hi. elim (ℕ_discrete m i) [ yes s ↦ ap f s ∙ q | no s ↦ h.before m (omega arith) hi ];
            here = h.here;
          },
        )

-- ---- a loop that has come to i: what is left decides the answer
pub record Going (f : ℕ → Judged) (k a i : ℕ) : Type 0 where
  pub low : a ≤ i
  pub high : i ≤ a + k
  pub rest : judge_each f k a ≡ judge_each f (a + k - i) i

pub going_start : (f : ℕ → Judged) (k a : ℕ) → Going f k a a
going_start f k a = record { low = omega arith; high = omega arith; rest = ap (λ (x : ℕ). judge_each f x a) (omega arith) }

step : (f : ℕ → Judged) (m i : ℕ) → i < m → judge_each f (m - i) i ≡ then_judge (f i) (judge_each f (m - suc i) (suc i))
unfolding judge_each
step f m i h = let e : m - i ≡ suc (m - suc i) = omega arith in rw e

module _ {f : ℕ → Judged} {k a i : ℕ} (g : Going f k a i) where
  pub going_stop : i < a + k → (r : Judged) (x : Refusal) → r ≡ Err x → r ≡ f i → r ≡ judge_each f k a
  going_stop h r x refused here = sym (g.rest ∙ step f (a + k) i h ∙ rw (← here, refused))

  pub going_next : i < a + k → (Ok tt) ≡ f i → Going f k a (i + 1)
  going_next h here =
      let e : a + k - suc i ≡ a + k - (i + 1) = omega arith in
      record { low = omega (arith, g.low); high = omega arith; rest = g.rest ∙ step f (a + k) i h ∙ rw (← here, add-one) }

  pub going_end : a + k ≤ i → (Ok tt) ≡ judge_each f k a
  unfolding judge_each
  going_end h = sym (g.rest ∙ (let e : a + k - i ≡ 0 = omega arith in rw e))
