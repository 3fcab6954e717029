-- One wire of buffers, some of them given: a given one shuts the piece of wire below it, as a source would, and is a pin to the piece above.
use Rattle.std.specs.Prelude.{ℕ, zero, suc, ◌+◌, ◌-◌, List, [], ◌∷◌, ◌++◌, replicate}
use Rattle.rules.specs.Figures.{most_limit, most_wire}
use Rattle.frontier.specs.Cell.{Cell}
use Rattle.frontier.specs.Frontier.{ceil, T}
use Rattle.frontier.specs.Spaced.{spread}

-- the largest piece of a wire: all of it, over what a driver may see
abbrev pub most_piece : ℕ
most_piece = most_wire + most_limit

-- the topmost of the offsets o and os
unfoldable pub topmost : ℕ → List ℕ → ℕ
topmost o [] = o
topmost o (p ∷ os) = topmost p os

-- a wire's lead: 0 where no offset is given, else one more than the topmost
abbrev pub lead_of : List ℕ → ℕ
lead_of [] = 0
lead_of (o ∷ os) = suc (topmost o os)

module _ (τ : Cell) where
  -- the uppermost piece of a wire of size w over the load h, by the wire's lead: its size and what hangs below it
  abbrev pub piece : ℕ → ℕ → ℕ → ℕ
  piece w zero h = w + h
  piece w (suc o) h = (w - o) + τ.cb

  -- what the wire hands up with as few buffers as serve
  abbrev pub bare : ℕ → ℕ → ℕ → ℕ
  bare w lead h = T τ (piece w lead h) (ceil τ (piece w lead h))

  -- and with k more at its upper end
  abbrev pub topped : ℕ → ℕ → ℕ
  topped zero a = a
  topped (suc k) a = τ.cb

  -- the offsets of a wire of size w from `at` on, where b hangs: in each piece as few as serve and as far apart as they may be, the given ones between the
  -- pieces, and k at the upper end
  unfoldable pub whole_from : ℕ → ℕ → ℕ → ℕ → List ℕ → List ℕ
  whole_from w k at b [] = spread τ w at b (ceil τ ((w - at) + b)) ++ replicate k w
  whole_from w k at b (g ∷ gs) = spread τ g at b (ceil τ ((g - at) + b)) ++ (g ∷ whole_from w k g τ.cb gs)

  -- and those of them that are not given
  unfoldable pub added_from : ℕ → ℕ → ℕ → ℕ → List ℕ → List ℕ
  added_from w k at b [] = spread τ w at b (ceil τ ((w - at) + b)) ++ replicate k w
  added_from w k at b (g ∷ gs) = spread τ g at b (ceil τ ((g - at) + b)) ++ added_from w k g τ.cb gs
