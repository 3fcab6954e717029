-- What the inner functions ask of the table of leads, and say of what is written.
use Rattle.std.specs.Prelude.{ℕ, ◌≤◌, ◌<◌, ◌≡◌, List, Option, None, Result, Ok, Err, length, get_or}
use Rattle.rules.specs.declared.Entry.{Entry}
use Rattle.rules.specs.declared.Refusal.{Refusal}
use Rattle.rules.specs.declared.Refusal.TheVariants.{NoRoom}
use Rattle.rules.specs.Figures.{most_places, most_entries}
use Rattle.columns.specs.Columns.{room_in, Kept, Holds}

-- a table with a place for the wire of each entry, and nothing in it yet
pub record Fresh (ws os : List ℕ) (leads : List (Option ℕ)) : Type 0 where
  pub same : length os ≡ length ws
  pub few : length ws ≤ most_entries
  pub long : length leads ≤ most_places
  pub wires : (e : ℕ) → e < length ws → get_or ws e 0 < length leads
  pub clear : (i : ℕ) → get_or leads i None ≡ None

-- 9 with the number of the entries a, or all of them written
pub data Placed (a : List Entry) (ws os ws' os' : List ℕ) (r : Result ℕ Refusal) : Type 0 where
  short : room_in ws os < length a → r ≡ Err (NoRoom (length a)) → Kept ws os ws' os' → Placed a ws os ws' os' r
  fits : length a ≤ room_in ws os → r ≡ Ok (length a) → Holds a ws os ws' os' → Placed a ws os ws' os' r
