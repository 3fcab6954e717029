-- A placement as the model has it: over the tree, wire by wire.
use Rattle.std.specs.Prelude.{ℕ, ◌+◌, ◌-◌, ◌≤◌, ◌≡◌, List, [], ◌∷◌, length}
use Rattle.rules.specs.Tree.{Hanging, none, sink, branch}
use Rattle.rules.specs.Load.{hands_up}
use Rattle.frontier.specs.Cell.{Cell, turn}

-- each wire's offsets, lowest first
abbrev pub Plan : Hanging → Type 0
Plan none = Unit {0}
Plan (sink i w c s r) = List ℕ × Plan r
Plan (branch i w f r) = List ℕ × Plan f × Plan r

-- the plan that gives wire i the offsets `offs i`
abbrev pub plan_of : (ℕ → List ℕ) → (f : Hanging) → Plan f
plan_of offs none = tt
plan_of offs (sink i w c s r) = (offs i, plan_of offs r)
plan_of offs (branch i w f r) = (offs i, plan_of offs f, plan_of offs r)

abbrev pub count : (f : Hanging) → Plan f → ℕ
count none pl = 0
count (sink i w c s r) pl = length pl.0 + count r pl.1
count (branch i w f r) pl = (count f pl.1 + length pl.0) + count r pl.2

module _ (τ : Cell) where
  -- the offsets from `at` on are in order, within the wire, and none drives too much, where b hangs at `at`
  abbrev pub GoodW : ℕ → ℕ → ℕ → List ℕ → Type 0
  GoodW w at b [] = at ≤ w
  GoodW w at b (o ∷ os) = (at ≤ o) × ((o - at) + b ≤ τ.cu) × GoodW w o τ.cb os

  -- what the wire hands up
  abbrev pub top_w : ℕ → ℕ → ℕ → List ℕ → ℕ
  top_w w at b os = hands_up τ.cb w at b os

  abbrev pub load : (f : Hanging) → Plan f → ℕ
  load none pl = 0
  load (sink i w c s r) pl = top_w w 0 c pl.0 + load r pl.1
  load (branch i w f r) pl = top_w w 0 (load f pl.1) pl.0 + load r pl.2

  abbrev pub Good : (f : Hanging) → Plan f → Type 0
  Good none pl = Unit {0}
  Good (sink i w c s r) pl = GoodW w 0 c pl.0 × Good r pl.1
  Good (branch i w f r) pl = GoodW w 0 (load f pl.1) pl.0 × Good f pl.1 × Good r pl.2

  -- every sink sees its polarity, where the point has p
  abbrev pub Par : ℕ → (f : Hanging) → Plan f → Type 0
  Par p none pl = Unit {0}
  Par p (sink i w c s r) pl = (turn τ.kind p (length pl.0) ≡ s) × Par p r pl.1
  Par p (branch i w f r) pl = Par (turn τ.kind p (length pl.0)) f pl.1 × Par p r pl.2

-- legal, with the polarity p at the driver
pub record Settled (τ : Cell) (p : ℕ) (f : Hanging) (pl : Plan f) : Type 0 where
  pub pol : p ≤ 1
  pub good : Good τ f pl
  pub fits : load τ f pl ≤ τ.cu
  pub par : Par τ p f pl
