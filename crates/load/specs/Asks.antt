-- What the loads ask of a net and a placement.
use Rattle.std.specs.Prelude.{ℕ, ◌-◌, ◌≤◌, ◌<◌, ◌≡◌, Bool, true, false, List, length, get_or}
use Rattle.rules.specs.declared.LentPlacement.{LentPlacement}
use Rattle.rules.specs.Figures.{most_entries}
use Rattle.rules.specs.Net.{Net, places, kind}
use Rattle.rules.specs.Load.{entries, offsets_on}
use Rattle.rules.specs.Legal.{InOrder, start}
use Rattle.rules.specs.Sound.{SoundNet}
use Rattle.load.specs.declared.Tables.{Tables}
use Rattle.load.specs.Tables.{TablesOf}

-- the offsets that a lent placement gives to each wire
abbrev pub offsets_at : LentPlacement → ℕ → List ℕ
offsets_at lent = offsets_on (entries lent.wires.now lent.offsets.now)

-- a sound net, and a placement whose entries stand on it in order
pub record Placed (n : Net) (vs os : List ℕ) : Type 0 where
  pub sound : SoundNet n
  pub even : length os ≡ length vs
  pub few : length vs ≤ most_entries
  pub order : InOrder n start (entries vs os)

-- the column of parents and the tables are those of a net and its offsets, and i is a wire of it (or the source)
pub record AsksWire (n : Net) (offs : ℕ → List ℕ) (parents : List ℕ) (t : Tables) (i : ℕ) : Type 0 where
  pub column : n.parents ≡ parents
  pub tables : TablesOf n offs t
  pub within : i < places n

-- or a branch point or the source
pub record AsksNode (n : Net) (offs : ℕ → List ℕ) (parents : List ℕ) (t : Tables) (v : ℕ) : Type 0 where
  pub asks : AsksWire n offs parents t v
  pub branch : kind n v ≡ 1 → ⊥

-- of some net: the loads look at no other column, and what they answer holds for every net whose tables these are
pub record AskedWire (parents : List ℕ) (t : Tables) (i : ℕ) : Type 0 where
  pub net : Net
  pub offs : ℕ → List ℕ
  pub asks : AsksWire net offs parents t i

pub record AskedNode (parents : List ℕ) (t : Tables) (v : ℕ) : Type 0 where
  pub net : Net
  pub offs : ℕ → List ℕ
  pub asks : AsksNode net offs parents t v

-- entry k stands above another on its wire
abbrev pub Stacked : List ℕ → ℕ → Bool → Type 0
Stacked vs k true = (0 < k) × (get_or vs (k - 1) 0 ≡ get_or vs k 0)
Stacked vs k false = 0 < k → get_or vs (k - 1) 0 ≡ get_or vs k 0 → ⊥
