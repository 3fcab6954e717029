-- What a file holds under running numbers: nodes, entries.
use Rattle.std.specs.Prelude.{ℕ, zero, suc, List, [], ◌∷◌}

-- k of them, from number i on
unfoldable pub listed : {A : Type 0} → (ℕ → A) → ℕ → ℕ → List A
listed f zero i = []
listed f (suc k) i = f i ∷ listed f k (suc i)
