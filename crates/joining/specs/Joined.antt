-- Given and added entries in one list, in order: which comes next, and what stands in two columns on the way.
use Rattle.std.specs.Prelude.{ℕ, ◌+◌, ◌≤◌, ◌<◌, ◌≡◌, List, [], ◌∷◌, ◌++◌, length, drop, Bool, true, false}
use Rattle.rules.specs.declared.Entry.{Entry}
use Rattle.rules.specs.Choose.{pick}
use Rattle.rules.specs.Load.{entries}
use Rattle.rules.specs.Legal.{After, start}
use Rattle.rules.specs.Complete.{Joins}
use Rattle.columns.specs.Columns.{Holds}

-- each entry after the one before it; d comes before the first
abbrev pub Rising : Entry → List Entry → Type 0
Rising d [] = Unit {0}
Rising d (e ∷ es) = After d e × Rising e es

-- two columns of given entries and two of added ones
pub record Even (gw go aw ao : List ℕ) : Type 0 where
  pub given : length go ≡ length gw
  pub added : length ao ≡ length aw

-- i given and j added ones have been taken, and one is left
pub record Left (gw go aw ao : List ℕ) (i j : ℕ) : Type 0 where
  pub even : Even gw go aw ao
  pub given : i ≤ length gw
  pub added : j ≤ length aw
  pub some : i + j < length gw + length aw

-- the first of either list is next, and may stand before the other's; r says whether it is the given one
pub data Next (g a : List Entry) (r : Bool) : Type 0 where
  given : (x : Entry) (g' : List Entry) → g ≡ x ∷ g' → ((y : Entry) (a' : List Entry) → a ≡ y ∷ a' → After x y) → r ≡ true → Next g a r
  added : (y : Entry) (a' : List Entry) → a ≡ y ∷ a' → ((x : Entry) (g' : List Entry) → g ≡ x ∷ g' → After y x) → r ≡ false → Next g a r

-- i given and j added entries of a whole stand in the columns; the others make the rest of it
pub record Laying (g a whole : List Entry) (i j : ℕ) (ws os ws' os' : List ℕ) : Type 0 where
  pub done : List Entry
  pub rest : List Entry
  pub last : Entry
  pub all : whole ≡ done ++ rest
  pub many : length done ≡ i + j
  pub left : Joins (drop i g) (drop j a) rest
  pub rises : Rising last rest
  pub holds : Holds done ws os ws' os'

-- one more stands there; r says whether it is a given one
pub record OneMore (gw go aw ao : List ℕ) (i j : ℕ) (ws os ws' os' : List ℕ) (r : Bool) : Type 0 where
  pub given : i + pick r 1 0 ≤ length gw
  pub added : j + pick r 0 1 ≤ length aw
  pub wires : length ws' ≡ length ws
  pub offsets : length os' ≡ length os
  pub lays : (whole : List Entry) (ws₀ os₀ : List ℕ) → Laying (entries gw go) (entries aw ao) whole i j ws₀ os₀ ws os
      → Laying (entries gw go) (entries aw ao) whole (i + pick r 1 0) (j + pick r 0 1) ws₀ os₀ ws' os'

-- every whole of them that rises stands in the columns; there is one at most
abbrev pub JoinedIn : List ℕ → List ℕ → List ℕ → List ℕ → List ℕ → List ℕ → List ℕ → List ℕ → Type 0
JoinedIn gw go aw ao ws os ws' os' = (whole : List Entry) → Joins (entries gw go) (entries aw ao) whole → Rising start whole → Holds whole ws os ws' os'
