-- Two answers that meet the carry's contract are equal, and so is what they leave in the column of offsets.
use Prim.Native.Nat.{ℕ}
use mathlib.Core.Path.{◌≡◌, sym, ◌∙◌}
use mathlib.Core.List.{List}
use Rattle.rules.specs.Net.{Net}
use Rattle.carry.specs.Carry.{Outcome, CarriedIs}

pub carry_determined : (n m : Net) (vs before : List ℕ) {r r' : Outcome} {after after' : List ℕ}
    → CarriedIs n m vs before r after → CarriedIs n m vs before r' after' → (r ≡ r') × (after ≡ after')
carry_determined n m vs before e f = (e.answer ∙ sym f.answer, e.column ∙ sym f.column)
