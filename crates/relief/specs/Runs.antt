-- The given entries, wire after wire.
use Rattle.std.specs.Prelude.{ℕ, ◌≤◌, List, [], ◌∷◌, drop, eqb}
use Rattle.rules.specs.declared.Entry.{Entry}
use Rattle.rules.specs.Choose.{pick}
use Rattle.rules.specs.Load.{entries}

-- the entries of two columns from e on
abbrev pub from : List ℕ → List ℕ → ℕ → List Entry
from ws os e = entries (drop e ws) (drop e os)

-- on wires from b on, none lower than the one before
abbrev pub Sorted : ℕ → List Entry → Type 0
Sorted b [] = Unit {0}
Sorted b (e ∷ es) = (b ≤ e.wire) × Sorted e.wire es

-- what is left after the first entries that are wire i's
unfoldable pub past : ℕ → List Entry → List Entry
past i [] = []
past i (e ∷ es) = let others = past i es in pick (eqb e.wire i) others (e ∷ es)
