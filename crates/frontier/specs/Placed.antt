-- The placement, as a list, that has given offsets on each wire.
use Rattle.std.specs.Prelude.{ℕ, zero, suc, ◌-◌, List, [], ◌∷◌, ◌++◌}
use Rattle.rules.specs.declared.Entry.{Entry}
use Rattle.rules.specs.Net.{Net, places}

-- the entries of wire i
unfoldable pub on_wire : ℕ → List ℕ → List Entry
on_wire i [] = []
on_wire i (o ∷ os) = record { wire = i; offset = o } ∷ on_wire i os

-- those of k wires from i on, one wire after the other
unfoldable pub on_wires : (ℕ → List ℕ) → ℕ → ℕ → List Entry
on_wires offs zero i = []
on_wires offs (suc k) i = on_wire i (offs i) ++ on_wires offs k (suc i)

-- those of all the wires
abbrev pub placed : Net → (ℕ → List ℕ) → List Entry
placed n offs = on_wires offs (places n - 1) 1
