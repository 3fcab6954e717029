-- A half-buffered net (RULES 8): some entries are given, others are added to them, and all together are to be legal.
use Rattle.std.specs.Prelude.{ℕ, ◌+◌, ◌≤◌, ◌≡◌, Bool, List, [], ◌∷◌, length, eqb}
use Rattle.rules.specs.declared.Entry.{Entry}
use Rattle.rules.specs.Choose.{pick, both}
use Rattle.rules.specs.Net.{Net}
use Rattle.rules.specs.Legal.{Legal}

-- the whole is the given ones and the added ones, each in its own order: no other, and none left out
pub data Joins {A : Type 0} : List A → List A → List A → Type 0 where
  end : Joins [] [] []
  given : {x : A} {g a whole : List A} → Joins g a whole → Joins (x ∷ g) a (x ∷ whole)
  added : {x : A} {g a whole : List A} → Joins g a whole → Joins g (x ∷ a) (x ∷ whole)

-- with the added entries a the given entries g become a legal placement
pub record Completes (n : Net) (g a : List Entry) : Type 0 where
  pub whole : List Entry
  pub joins : Joins g a whole
  pub legal : Legal n whole

-- k added entries make the given ones legal, and no fewer do
pub record LeastAdded (n : Net) (g : List Entry) (k : ℕ) : Type 0 where
  pub entries : List Entry
  pub completes : Completes n g entries
  pub count : length entries ≡ k
  pub fewest : (a : List Entry) → Completes n g a → k ≤ length a

-- whatever is added, the given ones do not become legal
abbrev pub NoneCompletes : Net → List Entry → Type 0
NoneCompletes n g = (a : List Entry) → Completes n g a → ⊥

-- the other reading of "contains": each entry at least as often as it is given
abbrev pub same_entry : Entry → Entry → Bool
same_entry d e = both (eqb d.wire e.wire) (eqb d.offset e.offset)

unfoldable pub times : Entry → List Entry → ℕ
times e [] = 0
times e (d ∷ ds) = pick (same_entry d e) 1 0 + times e ds

abbrev pub Contains : List Entry → List Entry → Type 0
Contains whole g = (e : Entry) → times e g ≤ times e whole
