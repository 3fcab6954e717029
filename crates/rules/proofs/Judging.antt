-- Judgements in a row: what one that tests a single thing says of the rest, and by which number the whole refuses.
use Rattle.std.specs.Prelude.{Ok, Err}
use Prim.Native.Nat.{ℕ, zero, suc}
use mathlib.Core.Path.{◌≡◌, refl, subst}
use mathlib.Core.Bool.{Bool, true, false}
use mathlib.Core.Logic.{◌↔◌}
use native.Mathlib.Omega.{arith}
use Rattle.rules.specs.declared.Refusal.{Refusal}
use Rattle.rules.specs.Judged.{Judged}
use Rattle.rules.specs.Refusal.{number_of, judged_number}
use Rattle.rules.specs.Judge.{unless, then_judge, judge_each}

pub unless_true : {t : Bool} → t ≡ true → (r : Refusal) → unless t r ≡ (Ok tt)
unless_true e r = rw e

pub then_both : {a b : Judged} → a ≡ (Ok tt) → b ≡ (Ok tt) → then_judge a b ≡ (Ok tt)
then_both p q = rw p q

pub then_assoc : (a b c : Judged) → then_judge (then_judge a b) c ≡ then_judge a (then_judge b c)
then_assoc (Ok _) b c = refl
then_assoc (Err r) b c = refl

-- no judgement is both
pub sound_refused : {A : Type 0} {j : Judged} {r : Refusal} → j ≡ (Ok tt) → j ≡ Err r → A
sound_refused {A} {j} {r} s e = absurd (let z : ◌≡◌ {A = ℕ} 0 1 = cc in omega arith)

-- ---- a judgement that refuses by these numbers alone
pub record Only (P : ℕ → Type 0) (j : Judged) : Type 0 where
  pub number : (r : Refusal) → j ≡ Err r → P (number_of r)

module _ {P : ℕ → Type 0} where
  pub only_sound : Only P (Ok tt)
  only_sound = record { number = λ r e. sound_refused refl e }

  only_refused : (r : Refusal) → P (number_of r) → Only P (Err r)
  only_refused r p = record { number = λ x e. let q : r ≡ x = cc in rw (← q) p }

  pub unless_only : (t : Bool) (r : Refusal) → P (number_of r) → Only P (unless t r)
  unless_only true r p = only_sound
  unless_only false r p = only_refused r p

  pub then_only : (a b : Judged) → Only P a → Only P b → Only P (then_judge a b)
  then_only (Ok _) b p q = q
  then_only (Err r) b p q = p

  pub each_only : (f : ℕ → Judged) (k i : ℕ) → ((j : ℕ) → Only P (f j)) → Only P (judge_each f k i)
  unfolding judge_each
  each_only f zero i h = only_sound
  each_only f (suc k) i h = then_only (f i) (judge_each f k (suc i)) (h i) (each_only f k (suc i) h)

-- ---- a judgement that is Sound exactly where P holds, and else refuses by the number c
pub record Tests (j : Judged) (P : Type 0) (c : ℕ) : Type 0 where
  pub exactly : (j ≡ (Ok tt)) ↔ P
  pub by : Only (λ k. k ≡ c) j

-- so there are two cases
pub data Tested (j : Judged) (P : Type 0) (c : ℕ) : Type 0 where
  held : j ≡ (Ok tt) → P → Tested j P c
  failed : {r : Refusal} → j ≡ Err r → number_of r ≡ c → (P → ⊥) → Tested j P c

module _ {j : Judged} {P : Type 0} {c : ℕ} (t : Tests j P c) where
  pub tested : Tested j P c
  tested = go j refl
    where
      go : (a : Judged) → j ≡ a → Tested j P c
      go (Ok _) e = held e (t.exactly.0 e)
      go (Err r) e = failed e (t.by.number r e) (λ p. sound_refused (t.exactly.1 p) e)

  refuses : (P → ⊥) → (r : Refusal) × (j ≡ Err r) × (number_of r ≡ c)
  refuses not = go tested
    where
      go : Tested j P c → (r : Refusal) × (j ≡ Err r) × (number_of r ≡ c)
      go (held e p) = absurd (not p)
      go (failed {r} e n x) = (r, e, n)

  pub stops : (P → ⊥) → judged_number j ≡ c
  stops not = let (r, e, n) = refuses not in rw e n

  -- of two in a row: where it fails the next is not asked, and where it holds the next decides
  pub then_stops : (P → ⊥) → (b : Judged) → judged_number (then_judge j b) ≡ c
  then_stops not b = let (r, e, n) = refuses not in rw e n

  pub then_next : P → (b : Judged) → judged_number (then_judge j b) ≡ judged_number b
  then_next p b = rw (t.exactly.1 p)

-- ---- a number x for which G holds, and for no other, is the number k exactly where G holds for k
pub exactly_where : (G : ℕ → Type 0) (x : ℕ) → G x → ((k : ℕ) → G k → x ≡ k) → (k : ℕ) → (x ≡ k) ↔ G k
exactly_where G x here only k = (λ e. subst G e here, only k)
