-- What one pass from the last node up keeps of a net of buffers: what lies below each node, and which wires have a buffer at the upper end for their parent's sake.
use Rattle.std.specs.Prelude.{ℕ, ◌+◌, ◌≤◌, ◌<◌, ◌≡◌, List}
use Rattle.rules.specs.Net.{Net, places, wire, kind, pin}
use Rattle.rules.specs.Tree.{Hanging, none, sink, branch, under}
use Rattle.frontier.specs.Cell.{Cell}
use Rattle.frontier.specs.Cert.{sum}
use Rattle.relief.specs.Pieces.{bare, topped, whole_from, added_from}

-- of each wire under one point
abbrev pub Each : (ℕ → Type 0) → Hanging → Type 0
Each P none = Unit {0}
Each P (sink i w c s r) = P i × Each P r
Each P (branch i w f r) = P i × Each P r

module _ (τ : Cell) where
  -- a buffer at the upper end of a wire that hands up a takes off all but the pin: at least x where there is one, at most x where there is none
  pub data Divides (x a : ℕ) : ℕ → Type 0 where
    light : a ≤ τ.cb + x → Divides x a 0
    heavy : τ.cb + x ≤ a → Divides x a 1

  -- the wires under a point, a what they hand up and k which are topped, with the load h together: the heaviest are topped, and one fewer would be too few
  pub record Relieved (a k : ℕ → ℕ) (f : Hanging) (h : ℕ) : Type 0 where
    pub x : ℕ
    pub small : x ≤ τ.D
    pub each : Each (λ j. Divides x (a j) (k j)) f
    pub tight : 1 ≤ sum k f → τ.cu < h + x
    pub load : sum (λ j. topped τ (k j) (a j)) f ≡ h

-- of each node what lies below it, and of each wire 1 where it is topped
pub record Marks : Type 0 where
  pub load : ℕ → ℕ
  pub on : ℕ → ℕ

-- where the wires have the given offsets G
abbrev pub whole_at : Cell → Net → (ℕ → List ℕ) → Marks → ℕ → List ℕ
whole_at τ n G m i = whole_from τ (wire n i) (m.on i) 0 (m.load i) (G i)

abbrev pub added_at : Cell → Net → (ℕ → List ℕ) → Marks → ℕ → List ℕ
added_at τ n G m i = added_from τ (wire n i) (m.on i) 0 (m.load i) (G i)

module _ (τ : Cell) (n : Net) (lead : ℕ → ℕ) (m : Marks) where
  -- what wire i hands up without the one on top, and with it
  abbrev pub hands : ℕ → ℕ
  hands i = bare τ (wire n i) (lead i) (m.load i)

  abbrev pub out : ℕ → ℕ
  out i = topped τ (m.on i) (hands i)

  -- the marks of the nodes from b on are right
  pub record Marked (b : ℕ) : Type 0 where
    pub fits : (i : ℕ) → b ≤ i → i < places n → m.load i ≤ τ.cu
    pub sinks : (i : ℕ) → b ≤ i → i < places n → kind n i ≡ 1 → m.load i ≡ pin n i
    pub nodes : (v : ℕ) → b ≤ v → v < places n → kind n v ≡ 0 → Relieved τ hands m.on (under n v) (m.load v)

  -- node v cannot be brought within the limit: a sink's pin is over it, or what hangs there is with every wire topped that is heavier than the pin
  pub data Stuck (v : ℕ) : Type 0 where
    pin_over : kind n v ≡ 1 → τ.cu < pin n v → Stuck v
    wires_over : kind n v ≡ 0 → Each (λ j. Divides τ 0 (hands j) (m.on j)) (under n v) → τ.cu < sum out (under n v) → Stuck v
