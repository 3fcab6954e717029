-- Two answers that meet a call's contract are equal: each contract is an equation.
use Rattle.std.specs.Prelude.{Result}
use Rattle.rules.specs.declared.Refusal.{Refusal}
use Rattle.field.specs.declared.Field.{Field}
use Prim.Native.Nat.{ℕ}
use mathlib.Core.Path.{◌≡◌, sym, ◌∙◌}
use mathlib.Core.List.{List}
use Rattle.field.specs.declared.NoField.{NoField}
use Rattle.field.specs.Format.{field_at, due_at}

pub read_field_determined : (s : List ℕ) (at : ℕ) {r r' : Result Field NoField} → r ≡ field_at s at → r' ≡ field_at s at → r ≡ r'
read_field_determined s at e f = e ∙ sym f

pub read_due_determined : (s : List ℕ) (at tag : ℕ) {r r' : Result Field Refusal} → r ≡ due_at tag s at → r' ≡ due_at tag s at → r ≡ r'
read_due_determined s at tag e f = e ∙ sym f
