-- The wires under a point as a chain in a table of links: from the point to its lowest wire, from each wire to the next one up in number, and then to a number that
-- no wire has. A node's own link serves both: until the node has its load it leads to the node's wires, and then to the next wire beside its own.
use Rattle.std.specs.Prelude.{ℕ, ◌+◌, ◌≤◌, ◌<◌, ◌≡◌, List, [], ◌∷◌, Option, Some, None, length, get_or}
use Rattle.rules.specs.Figures.{most_places}
use Rattle.rules.specs.Tree.{Hanging, none, sink, branch}
use Rattle.rules.specs.Legal.{Each}

-- the wires under one point, in rising order
abbrev pub wires_of : Hanging → List ℕ
wires_of none = []
wires_of (sink i w c s r) = i ∷ wires_of r
wires_of (branch i w f r) = i ∷ wires_of r

abbrev pub sum_l : (ℕ → ℕ) → List ℕ → ℕ
sum_l g [] = 0
sum_l g (j ∷ js) = g j + sum_l g js

-- from k on the table goes through js, each below N
abbrev pub Chain : ℕ → List ℕ → ℕ → List ℕ → Type 0
Chain N links k [] = N ≤ k
Chain N links k (j ∷ js) = (k ≡ j) × (j < N) × (j < get_or links j 0) × Chain N links (get_or links j 0) js

pub data Among (j : ℕ) : List ℕ → Type 0 where
  here : {js : List ℕ} → Among j (j ∷ js)
  there : {i : ℕ} {js : List ℕ} → Among j js → Among j (i ∷ js)

-- the heaviest of js that is heavier than the pin
pub data Heaviest (tops : List ℕ) (pin : ℕ) (js : List ℕ) : Option ℕ → Type 0 where
  no_more : Each (λ i. get_or tops i 0 ≤ pin) js → Heaviest tops pin js None
  is_at : {j : ℕ} → Among j js → pin < get_or tops j 0 → Each (λ i. get_or tops i 0 ≤ get_or tops j 0) js → Heaviest tops pin js (Some j)

-- a chain of wires in the tables
pub record Chained (links tops : List ℕ) (first : ℕ) : Type 0 where
  pub long : length links ≡ length tops
  pub few : length tops ≤ most_places
  pub js : List ℕ
  pub chain : Chain (length tops) links first js
