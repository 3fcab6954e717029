-- The readers' numbers: for an answer that meets the contract each is given exactly where its row says, and the place is where the field starts.
use Rattle.std.specs.Prelude.{Result}
use Rattle.rules.specs.declared.Refusal.{Refusal}
use Rattle.field.specs.declared.Field.{Field}
use Prim.Native.Nat.{ℕ}
use mathlib.Core.Path.{◌≡◌, sym, ap, subst, ◌∙◌}
use mathlib.Core.Logic.{◌↔◌}
use mathlib.Core.List.{List}
use mathlib.Core.Bool.{Bool}
use Rattle.field.specs.declared.NoField.{NoField}
use Rattle.field.specs.Format.{field_at, due_at, read_number, read_place, due_number, due_place}
use Rattle.field.proofs.Numbers.{AreBytes}
use Rattle.field.proofs.Reading.{read_place_lem}
use Rattle.field.proofs.Due.{due_place_lem}
use Rattle.field.proofs.ReadNumbers.{FieldRow, field_row, DueRow, due_row}

-- whichever tags are due to the caller
pub read_field_numbers : (due : ℕ → Bool) (s : List ℕ) (at : ℕ) {r : Result Field NoField} → r ≡ field_at s at → (k : ℕ) → (FieldRow due s at k ↔ (read_number due r ≡ k)) × (read_place r ≡ at)
read_field_numbers due s at e k = (subst (λ (x : Result Field NoField). FieldRow due s at k ↔ (read_number due x ≡ k)) (sym e) (field_row due s at k), ap read_place e ∙ read_place_lem s at)

pub read_due_numbers : (tag : ℕ) (s : List ℕ) (at : ℕ) {r : Result Field Refusal} → AreBytes s → r ≡ due_at tag s at → (k : ℕ) → (DueRow tag s at k ↔ (due_number r ≡ k)) × (due_place r ≡ at)
read_due_numbers tag s at by e k = (subst (λ (x : Result Field Refusal). DueRow tag s at k ↔ (due_number x ≡ k)) (sym e) (due_row tag s by at k), ap due_place e ∙ due_place_lem tag s at)
