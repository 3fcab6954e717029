-- Two answers that meet the checker's contract are equal.
use Prim.Native.Nat.{ℕ}
use mathlib.Core.Path.{◌≡◌, sym, ◌∙◌}
use mathlib.Core.List.{List}
use Rattle.rules.specs.Net.{Net}
use Rattle.checker.specs.Verdict.{Verdict, verdict}

pub check_determined : (n : Net) (vs os : List ℕ) {r r' : Verdict} → r ≡ verdict n vs os → r' ≡ verdict n vs os → r ≡ r'
check_determined n vs os e f = e ∙ sym f
