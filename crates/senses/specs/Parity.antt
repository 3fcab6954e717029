-- The inverters from the source to each node (RULES 2.13), counted by twos.
use Rattle.std.specs.Prelude.{ℕ, ◌%◌, ◌≤◌, ◌<◌, ◌≡◌, Bool, false, List, eqb, length, get_or}
use Rattle.rules.specs.Figures.{most_places}
use Rattle.rules.specs.Net.{Net}
use Rattle.rules.specs.Legal.{inverters}

abbrev pub is_odd : ℕ → Bool
is_odd m = eqb (m % 2) 1

-- the table holds for each wire from k on whether the entries on it are odd in number
pub record Counted (offs : ℕ → List ℕ) (k : ℕ) (odd : List Bool) : Type 0 where
  pub long : length odd ≡ most_places
  pub at : (i : ℕ) → k ≤ i → get_or odd i false ≡ is_odd (length (offs i))

-- the table holds for each of the first k nodes whether the inverters down to it are odd
pub record Turned (n : Net) (offs : ℕ → List ℕ) (k : ℕ) (odd : List Bool) : Type 0 where
  pub long : length odd ≡ most_places
  pub at : (i : ℕ) → i < k → get_or odd i false ≡ is_odd (inverters n offs i)
