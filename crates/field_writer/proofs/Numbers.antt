-- The writer's numbers: for an answer that meets the contract, 0 exactly where the field fits and 9 exactly where it does not, and with both the bytes of the field.
use Rattle.std.specs.Prelude.{Result}
use Rattle.rules.specs.declared.Refusal.{Refusal}
use Prim.Native.Nat.{ℕ}
use mathlib.Core.Path.{◌≡◌, sym, subst}
use mathlib.Core.Logic.{◌↔◌}
use mathlib.Core.List.{List}
use Rattle.field.specs.declared.Value.{Value}
use Rattle.field.specs.Format.{bytes_of, wrote, wrote_number, wrote_count}
use Rattle.field.proofs.Writing.{WroteRow, wrote_row}

pub write_field_numbers : (out : List ℕ) (v : Value) {r : Result ℕ Refusal} → r ≡ wrote (bytes_of v) out → (k p : ℕ) → WroteRow (bytes_of v) out k p ↔ ((wrote_number r ≡ k) × (wrote_count r ≡ p))
write_field_numbers out v e k p = subst (λ (x : Result ℕ Refusal). WroteRow (bytes_of v) out k p ↔ ((wrote_number x ≡ k) × (wrote_count x ≡ p))) (sym e) (wrote_row (bytes_of v) out k p)
