-- Two answers that conform agree in everything but the first places, up to the count: the least count is one number, and where there is one some placement is legal.
use Rattle.std.specs.Prelude.{Ok, Err, Result}
use Rattle.rules.specs.declared.Refusal.{Refusal}
use Prim.Native.Nat.{ℕ}
use mathlib.Core.Path.{◌≡◌, sym, ap, ◌∙◌}
use mathlib.Core.List.{List}
use native.Mathlib.Omega.{arith}
use lib.ListN.{length}
use Rattle.rules.specs.declared.Refusal.TheVariants.{NoRoom}
use Rattle.rules.specs.Judged.{Judged}
use Rattle.rules.specs.Net.{Net}
use Rattle.rules.specs.Judge.{judged}
use Rattle.frontier.proofs.LeastCount.{one_least}
use Rattle.columns.proofs.Alike.{Alike, alike_kept, alike_holds}
use Rattle.columns.specs.Columns.{written}
use Rattle.solution.specs.Answer.{Outcome, none, full, placed, Answered}

module _ {n : Net} {ws os ws₁ os₁ ws₂ os₂ : List ℕ} {r r' : Result ℕ Refusal} where
  both : Outcome n ws os ws₁ os₁ r → Outcome n ws os ws₂ os₂ r' → Alike r r' (written r) ws₁ os₁ ws₂ os₂
  both (none h e k) (none h' e' k') = alike_kept (written r) (e ∙ sym e') k k'
  both (none h e k) (full m l o e' k') = absurd (h l.placement l.legal)
  both (none h e k) (placed p l m o e' k') = absurd (h p l)
  both (full m l o e k) (none h e' k') = absurd (h l.placement l.legal)
  both (full m l o e k) (full m' l' o' e' k') = alike_kept (written r) (e ∙ ap (λ (x : ℕ). Err (NoRoom x)) (one_least l l') ∙ sym e') k k'
  both (full m l o e k) (placed p l' m' o' e' k') = absurd (omega (arith, one_least l m'))
  both (placed p l m o e k) (none h e' k') = absurd (h p l)
  both (placed p l m o e k) (full m' l' o' e' k') = absurd (omega (arith, one_least m l'))
  both (placed p l m o e k) (placed p' l' m' o' e' k') =
      let q : length p ≡ length p' = one_least m m' in
      alike_holds (written r) (e ∙ ap Ok q ∙ sym e') (sym (ap written e)) (sym q ∙ sym (ap written e)) k k'

pub determined : (n : Net) (ws os ws₁ os₁ ws₂ os₂ : List ℕ) (r r' : Result ℕ Refusal) → Answered (judged n) n ws os ws₁ os₁ r → Answered (judged n) n ws os ws₂ os₂ r' → Alike r r' (written r) ws₁ os₁ ws₂ os₂
determined n ws os ws₁ os₁ ws₂ os₂ r r' = go (judged n)
  where
    go : (j : Judged) → Answered j n ws os ws₁ os₁ r → Answered j n ws os ws₂ os₂ r' → Alike r r' (written r) ws₁ os₁ ws₂ os₂
    go (Ok _) a b = both a b
    go (Err x) a b = alike_kept (written r) (a.0 ∙ sym b.0) a.1 b.1
