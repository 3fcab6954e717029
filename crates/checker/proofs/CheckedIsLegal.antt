-- The checker's definition says 0 exactly for a legal placement: `checked` is Sound just where the net is sound, the columns fit and their placement is legal.
use Rattle.std.specs.Prelude.{Ok}
use Prim.Native.Nat.{ℕ}
use mathlib.Core.Path.{◌≡◌}
use mathlib.Core.Logic.{◌↔◌}
use mathlib.Core.List.{List}
use Rattle.rules.specs.declared.Refusal.TheVariants.{WrongColumns}
use Rattle.rules.specs.Net.{Net}
use Rattle.rules.specs.Load.{entries}
use Rattle.rules.specs.Judge.{unless, then_judge, judged}
use Rattle.rules.specs.Checked.{placement_fits, placement_judged, columns_judged, checked}
use Rattle.rules.proofs.Tests.{unless_met, then_met}
use Rattle.rules.proofs.Judging.{unless_true, then_both}
use Rattle.rules.proofs.LegalJudged.{judged_legal, legal_judged}
use Rattle.checker.specs.Verdict.{LegalColumns}

pub checked_is_legal : (n : Net) (vs os : List ℕ) → (checked n vs os ≡ Ok tt) ↔ LegalColumns n vs os
unfolding checked
checked_is_legal n vs os = (says, back)
  where
    says : then_judge (judged n) (columns_judged n vs os) ≡ Ok tt → LegalColumns n vs os
    says x =
        let (a, y) = then_met (judged n) (columns_judged n vs os) x in
        let (b, c) = then_met (unless (placement_fits vs os) WrongColumns) (placement_judged n (entries vs os)) y in
        record { sound = a; fit = unless_met _ WrongColumns b; legal = judged_legal n (entries vs os) c }

    back : LegalColumns n vs os → then_judge (judged n) (columns_judged n vs os) ≡ Ok tt
    back l = then_both l.sound (then_both (unless_true l.fit WrongColumns) (legal_judged n (entries vs os) l.legal))
