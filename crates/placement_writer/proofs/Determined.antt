-- Two answers that meet the writer's contract are equal, and so are the bytes that two calls leave: the contract is an equation.
use Rattle.std.specs.Prelude.{Result}
use Rattle.rules.specs.declared.Refusal.{Refusal}
use Prim.Native.Nat.{ℕ}
use mathlib.Core.Path.{◌≡◌, sym, ◌∙◌}
use mathlib.Core.List.{List}
use Rattle.placement_file.specs.File.{columns_of, WroteAs}

pub write_placement_determined : (vs os out : List ℕ) {out' out'' : List ℕ} {r r' : Result ℕ Refusal}
    → WroteAs (columns_of vs os) out out' r → WroteAs (columns_of vs os) out out'' r' → (r ≡ r') × (out' ≡ out'')
write_placement_determined vs os out a b = (a.answered ∙ sym b.answered, a.bytes ∙ sym b.bytes)
