-- The answer by what the judge says of the net.
use Rattle.std.specs.Prelude.{Ok, Err, Result}
use mathlib.Core.Path.{◌≡◌, refl, sym, subst}
use mathlib.Core.List.{List}
use Prim.Native.Nat.{ℕ}
use Rattle.rules.specs.declared.Refusal.{Refusal}
use Rattle.rules.specs.Judged.{Judged}
use Rattle.rules.specs.Net.{Net}
use Rattle.rules.specs.Judge.{judged}
use Rattle.solution.specs.Answer.{Outcome, Answered}

module _ (n : Net) (ws os : List ℕ) where
  pub refused : {x : Refusal} → judged n ≡ Err x → Answered (judged n) n ws os ws os (Err x)
  refused {x} e = subst (λ (j : Judged). Answered j n ws os ws os (Err x)) (sym e) (refl, record { wires = refl; offsets = refl })

  pub answered : {ws' os' : List ℕ} {r : Result ℕ Refusal} → judged n ≡ Ok tt → Outcome n ws os ws' os' r → Answered (judged n) n ws os ws' os' r
  answered {ws'} {os'} {r} e o = subst (λ (j : Judged). Answered j n ws os ws' os' r) (sym e) o
