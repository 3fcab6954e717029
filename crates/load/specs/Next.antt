-- What the search for a node's next child answers.
use Rattle.std.specs.Prelude.{ℕ, suc, ◌≤◌, ◌<◌, ◌≡◌, List, Option, Some, None, length, get_or}
use Rattle.rules.specs.Figures.{most_places}

-- a parent has the smaller number (RULES 1.5)
pub record Parents (parents : List ℕ) : Type 0 where
  pub some : 1 ≤ length parents
  pub few : length parents ≤ most_places
  pub lower : (i : ℕ) → 1 ≤ i → i < length parents → get_or parents i 0 < i

-- the search for a child of v goes on from a node of the net
pub record Searched (parents : List ℕ) (v after : ℕ) : Type 0 where
  pub ordered : Parents parents
  pub node : v < length parents
  pub within : after < length parents

-- none of the nodes from i up to j has v for its parent
abbrev pub NoneFrom : List ℕ → ℕ → ℕ → ℕ → Type 0
NoneFrom parents v i j = (k : ℕ) → i ≤ k → k < j → get_or parents k 0 ≡ v → ⊥

-- and none of those past `after` and before j
abbrev pub NoneBetween : List ℕ → ℕ → ℕ → ℕ → Type 0
NoneBetween parents v after j = NoneFrom parents v (suc after) j

-- the search has come to j
pub record Passed (parents : List ℕ) (v after j : ℕ) : Type 0 where
  pub later : after < j
  pub within : j ≤ length parents
  pub none : NoneBetween parents v after j

-- j is the lowest-numbered child of v past `after`
pub record Next (parents : List ℕ) (v after j : ℕ) : Type 0 where
  pub later : after < j
  pub within : j < length parents
  pub mine : get_or parents j 0 ≡ v
  pub first : NoneBetween parents v after j

abbrev pub NextIs : List ℕ → ℕ → ℕ → Option ℕ → Type 0
NextIs parents v after (Some j) = Next parents v after j
NextIs parents v after None = NoneBetween parents v after (length parents)
