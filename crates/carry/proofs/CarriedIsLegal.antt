-- RULES 6.19: after success the columns hold a legal placement of the second net. The cut column holds the carried entries, and easing keeps every legal placement.
use Rattle.std.specs.Prelude.{Ok, Err}
use Prim.Native.Nat.{ℕ}
use mathlib.Core.Path.{◌≡◌, refl, sym, ap, ◌∙◌}
use mathlib.Core.List.{List}
use native.Mathlib.Omega.{arith}
use lib.ListN.{length}
use borrow.Author.Tests.{eq-eqb, le-leb}
use Rattle.rules.specs.Judged.{Judged}
use Rattle.rules.specs.Figures.{most_entries}
use Rattle.rules.specs.Net.{Net}
use Rattle.rules.specs.Load.{entries}
use Rattle.rules.specs.Judge.{then_judge, judged}
use Rattle.rules.specs.Checked.{checked}
use Rattle.rules.specs.Ease.{carried, ease_judged}
use Rattle.rules.proofs.Tests.{both_true, then_met}
use Rattle.rules.proofs.EaseKeepsLegal.{ease_keeps_legal}
use Rattle.rules.proofs.Eased.{eased_says}
use Rattle.checker.specs.Verdict.{LegalColumns}
use Rattle.checker.proofs.CheckedIsLegal.{checked_is_legal}
use Rattle.checker.proofs.VerdictSays.{columns_even, columns_few}
use Rattle.carry.specs.Carry.{Outcome, first_net, second_net, placement_of, offsets_of, column_after, CarriedIs}
use Rattle.carry.proofs.Cut.{cut_length, cut_entries}

-- an outcome that carries comes from three judgements that passed
all_passed : (a b c : Judged) (count k : ℕ) → first_net a (second_net b (placement_of c count)) ≡ Ok k → (a ≡ Ok tt) × (b ≡ Ok tt) × (c ≡ Ok tt)
all_passed (Ok _) (Ok _) (Ok _) count k e = (refl, refl, refl)
all_passed (Ok _) (Ok _) (Err r) count k e = absurd (let z : ◌≡◌ {A = ℕ} 0 1 = cc in omega arith)
all_passed (Ok _) (Err r) c count k e = absurd (let z : ◌≡◌ {A = ℕ} 0 1 = cc in omega arith)
all_passed (Err r) b c count k e = absurd (let z : ◌≡◌ {A = ℕ} 0 1 = cc in omega arith)

pub carried_is_legal : {n m : Net} {vs before after : List ℕ} {r : Outcome} → CarriedIs n m vs before r after → (k : ℕ) → r ≡ Ok k → LegalColumns m vs after
carried_is_legal {n} {m} {vs} {before} {after} x k e =
    let (jn, jm, rest) = all_passed (judged n) (judged m) (then_judge (ease_judged n m) (checked n vs before)) (length vs) k (sym x.answer ∙ e) in
    let (eased, passed) = then_met (ease_judged n m) (checked n vs before) rest in
    let l : LegalColumns n vs before = (checked_is_legal n vs before).0 passed in
    let cut : after ≡ offsets_of (carried m (entries vs before)) = x.column ∙ ap (λ (o : Outcome). column_after o m vs before) (sym x.answer ∙ e) in
    let long : length after ≡ length vs = rw cut (cut_length m vs before (columns_even l) ∙ columns_even l) in
    record {
      sound = jm;
      fit = both_true (eq-eqb (length after) (length vs) long) (le-leb (length vs) most_entries (columns_few l));
      legal = rw (cut, cut_entries m vs before (columns_even l)) (ease_keeps_legal (eased_says n m jn jm eased) (entries vs before) l.legal);
    }
