-- The two columns that are lent to be filled with entries.
use Rattle.std.specs.Prelude.{ℕ, min, ◌≡◌, List, Result, Ok, Err, map, length}
use Rattle.std.proofs.lemmas.List.Edits.{sets}
use Rattle.rules.specs.declared.Entry.{Entry}
use Rattle.rules.specs.declared.Refusal.{Refusal}
use Rattle.rules.specs.Figures.{most_entries}
use Rattle.rules.specs.Refusal.{place_of}

-- a placement in memory: its wires and its offsets
abbrev pub wire_column : List Entry → List ℕ
wire_column p = map (λ e. e.wire) p

abbrev pub offset_column : List Entry → List ℕ
offset_column p = map (λ e. e.offset) p

-- the room: as much as the shorter of the two holds, and never more than 4,096 entries
abbrev pub room_in : List ℕ → List ℕ → ℕ
room_in ws os = min (min (length ws) (length os)) most_entries

-- the columns ws and os are as they were
pub record Kept (ws os ws' os' : List ℕ) : Type 0 where
  pub wires : ws' ≡ ws
  pub offsets : os' ≡ os

-- the entries of p stand in the first places, and no other place has changed
pub record Holds (p : List Entry) (ws os ws' os' : List ℕ) : Type 0 where
  pub wires : ws' ≡ sets ws 0 (wire_column p)
  pub offsets : os' ≡ sets os 0 (offset_column p)

-- of a call that fills them: the count, or a refusal's place
abbrev pub count_of : Result ℕ Refusal → ℕ
count_of (Ok k) = k
count_of (Err r) = place_of r

-- how many places it has written
abbrev pub written : Result ℕ Refusal → ℕ
written (Ok k) = k
written (Err r) = 0
