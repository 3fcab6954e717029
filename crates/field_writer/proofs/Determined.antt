-- Two answers that meet a call's contract are equal, and so are the bytes that two writers leave: each contract is an equation.
use Rattle.std.specs.Prelude.{Result}
use Rattle.rules.specs.declared.Refusal.{Refusal}
use Prim.Native.Nat.{ℕ}
use mathlib.Core.Path.{◌≡◌, sym, ◌∙◌}
use mathlib.Core.List.{List}
use lib.ListN.{length}
use Rattle.field.specs.declared.Value.{Value}
use Rattle.field.specs.Format.{bytes_of, wrote, laid}

pub size_determined : (v : Value) {n n' : ℕ} → n ≡ length (bytes_of v) → n' ≡ length (bytes_of v) → n ≡ n'
size_determined v e f = e ∙ sym f

pub write_field_determined : (out : List ℕ) (v : Value) {r r' : Result ℕ Refusal} {after after' : List ℕ}
    → (r ≡ wrote (bytes_of v) out) × (after ≡ laid (bytes_of v) out) → (r' ≡ wrote (bytes_of v) out) × (after' ≡ laid (bytes_of v) out)
    → (r ≡ r') × (after ≡ after')
write_field_determined out v e f = (e.0 ∙ sym f.0, e.1 ∙ sym f.1)
