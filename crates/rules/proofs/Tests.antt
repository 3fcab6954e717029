-- What a test that was met says, and what a judgement that ended in Sound says of its parts.
use Rattle.std.specs.Prelude.{Ok, Err}
use mathlib.Core.Path.{◌≡◌, refl, sym}
use mathlib.Core.Bool.{Bool, true, false}
use Prim.Native.Nat.{ℕ}
use native.Mathlib.Omega.{arith}
use Rattle.rules.specs.declared.Refusal.{Refusal}
use Rattle.rules.specs.Judged.{Judged}
use Rattle.rules.specs.Choose.{both}
use Rattle.rules.specs.Judge.{unless, then_judge}

pub never : {A : Type 0} → true ≡ false → A
never e = absurd (let z : ◌≡◌ {A = ℕ} 0 1 = cc in omega arith)

pub both_met : (a b : Bool) → both a b ≡ true → (a ≡ true) × (b ≡ true)
both_met true b e = (refl, e)
both_met false b e = never (sym e)

pub both_true : {a b : Bool} → a ≡ true → b ≡ true → both a b ≡ true
both_true p q = rw (p, q)

pub unless_met : (t : Bool) (r : Refusal) → unless t r ≡ (Ok tt) → t ≡ true
unless_met true r e = refl
unless_met false r e = absurd (let z : ◌≡◌ {A = ℕ} 0 1 = cc in omega arith)

pub then_met : (a b : Judged) → then_judge a b ≡ (Ok tt) → (a ≡ (Ok tt)) × (b ≡ (Ok tt))
then_met (Ok _) b e = (refl, e)
then_met (Err r) b e = absurd (let z : ◌≡◌ {A = ℕ} 0 1 = cc in omega arith)
