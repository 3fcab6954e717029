-- Two answers that meet the reader's contract are equal, and so is what two calls leave in the columns: the contract is an equation.
use Rattle.std.specs.Prelude.{Result}
use Rattle.rules.specs.declared.Refusal.{Refusal}
use Prim.Native.Nat.{ℕ}
use mathlib.Core.Path.{◌≡◌, sym, ◌∙◌}
use mathlib.Core.List.{List}
use Rattle.placement_file.specs.File.{placement_of, ReadAs}

pub read_placement_determined : (s vs os : List ℕ) {vs' os' vs'' os'' : List ℕ} {r r' : Result ℕ Refusal}
    → ReadAs (placement_of s) vs os vs' os' r → ReadAs (placement_of s) vs os vs'' os'' r' → (r ≡ r') × (vs' ≡ vs'') × (os' ≡ os'')
read_placement_determined s vs os a b = (a.answered ∙ sym b.answered, a.wires ∙ sym b.wires, a.offsets ∙ sym b.offsets)
