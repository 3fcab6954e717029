-- The given entries' columns, and the leads of their wires.
use Rattle.std.specs.Prelude.{ℕ, ◌≤◌, ◌≡◌, List, Option, length}
use Rattle.rules.specs.Figures.{most_entries}
use Rattle.rules.specs.Net.{Net}
use Rattle.rules.specs.Load.{entries, offsets_on}
use Rattle.rules.specs.Legal.{InOrder, start}
use Rattle.relief.specs.Pieces.{lead_of}
use Rattle.buffers.specs.Going.{leads_in}

-- the given entries stand on the net, in order
pub record Stood (n : Net) (ws os : List ℕ) : Type 0 where
  pub same : length os ≡ length ws
  pub few : length ws ≤ most_entries
  pub order : InOrder n start (entries ws os)

-- each wire's lead
pub record Leads (ws os : List ℕ) (leads : List (Option ℕ)) : Type 0 where
  pub is : (i : ℕ) → leads_in leads i ≡ lead_of (offsets_on (entries ws os) i)
