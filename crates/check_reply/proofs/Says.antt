-- `check` answers, with status "0", exactly where the columns hold a legal placement of a sound net; its text is then `legal N` and
-- `source drives L`.
use Prim.Native.Nat.{ℕ}
use mathlib.Core.Path.{◌≡◌}
use mathlib.Core.Logic.{◌↔◌}
use mathlib.Core.List.{List, []}
use Rattle.rules.specs.Net.{Net}
use Rattle.rules.specs.Checked.{checked}
use Rattle.checker.specs.Verdict.{LegalColumns}
use Rattle.checker.proofs.CheckedIsLegal.{checked_is_legal}
use Rattle.reply.specs.Said.{answered}
use Rattle.reply.proofs.Judged.{answered_passed}
use Rattle.check_reply.specs.Checks.{legal_text, check_said}

module _ (n : Net) (ws os : List ℕ) where
  pub legal_says : LegalColumns n ws os → check_said n ws os ≡ answered (legal_text n ws os) []
  legal_says l = rw ((checked_is_legal n ws os).1 l)

  pub check_says : ((check_said n ws os).status ≡ 48) ↔ LegalColumns n ws os
  check_says = (passed, λ l. rw ((checked_is_legal n ws os).1 l))
    where
      passed : (check_said n ws os).status ≡ 48 → LegalColumns n ws os
      passed e = (checked_is_legal n ws os).0 (answered_passed (checked n ws os) (legal_text n ws os) [] e)
