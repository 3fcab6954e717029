-- The frontier: for a node or a wire, and each polarity it may have, the least count and the least loads at that count and one more.
-- Computed from the sinks up; at the source it is the net's least count.
use Rattle.std.specs.Prelude.{ℕ, zero, suc, ◌+◌, ◌-◌, ◌*◌, ◌/◌, ◌%◌, min, max}
use Rattle.rules.specs.Tree.{Hanging, none, sink, branch}
use Rattle.frontier.specs.Cell.{Kind, buf, inv, Cell}

-- what is kept of a wire or of a node: the least count m, the least load a with m, b with m + 1
pub data State : Type 0 where
  lost : State
  has : (m a b : ℕ) → State

-- and of the wires under one point: the sum m of their least counts, and the least load with m + e
pub data Acc : Type 0 where
  fail : Acc
  all : (m : ℕ) (best : ℕ → ℕ) → Acc

-- the first at zero, the second elsewhere
abbrev pub ifz : ℕ → State → State → State
ifz zero s t = s
ifz (suc n) s t = t

-- the better of two states: the two differences of their counts say which
abbrev pub merge_by : ℕ → ℕ → ℕ → ℕ → ℕ → ℕ → ℕ → ℕ → State
merge_by zero zero m a b m' a' b' = has m (min a a') (min b b')
merge_by zero (suc zero) m a b m' a' b' = has m' a' (min b' a)
merge_by zero (suc (suc d)) m a b m' a' b' = has m' a' b'
merge_by (suc zero) e m a b m' a' b' = has m a (min b a')
merge_by (suc (suc d)) e m a b m' a' b' = has m a b

abbrev pub merge : State → State → State
merge lost t = t
merge (has m a b) lost = has m a b
merge (has m a b) (has m' a' b') = merge_by (m' - m) (m - m') m a b m' a' b'

abbrev pub width : Hanging → ℕ
width none = 0
width (sink i w c s r) = suc (width r)
width (branch i w f r) = suc (width r)

-- a node with the surplus e over the sum m, where the load is g e
abbrev pub at_surplus : ℕ → ℕ → (ℕ → ℕ) → State
at_surplus m e g = has (m + e) (g e) (min (g e) (g (suc e)))

module _ (τ : Cell) where
  -- the least r with v ≤ cu + r * D
  unfoldable pub ceil : ℕ → ℕ
  ceil v = ((v - τ.cu) + (τ.D - 1)) / τ.D

  -- and of the parity π, where the repeater is an inverter
  unfoldable pub req : Kind → ℕ → ℕ → ℕ
  req buf π v = ceil v
  req inv π v = ceil v + (ceil v + π) % 2

  -- the least load that a wire hands up with r repeaters on it, v its size and what hangs below
  abbrev pub T : ℕ → ℕ → ℕ
  T v zero = v
  T v (suc r) = max τ.cb (v - suc r * τ.D)

  -- with one more than the least: a buffer at the wire's upper end
  unfoldable pub second : Kind → ℕ → ℕ
  second buf a = min a τ.cb
  second inv a = a

  unfoldable pub cand : Kind → ℕ → ℕ → ℕ → State
  cand κ π n v = has (n + req κ π v) (T v (req κ π v)) (second κ (T v (req κ π v)))

  -- a wire of size w over a node's state
  unfoldable pub via : Kind → ℕ → ℕ → State → State
  via κ π w lost = lost
  via κ π w (has n h₀ h₁) = merge (cand κ π n (w + h₀)) (cand κ π (suc n) (w + h₁))

  -- over the node's states at every polarity
  unfoldable pub wire : Kind → ℕ → (ℕ → State) → ℕ → State
  wire buf w nd p = via buf 0 w (nd p)
  wire inv w nd p = merge (via inv 0 w (nd ((p + 0) % 2))) (via inv 1 w (nd ((p + 1) % 2)))

  -- one wire more under a point: 0, 1 or 2 of the surplus e are the wire's
  unfoldable pub conv : ℕ → ℕ → (ℕ → ℕ) → ℕ → ℕ
  conv a b g zero = a + g 0
  conv a b g (suc zero) = min (a + g 1) (b + g 0)
  conv a b g (suc (suc e)) = min (a + g (suc (suc e))) (min (b + g (suc e)) (min a τ.cb + g e))

  unfoldable pub join : State → Acc → Acc
  join lost x = fail
  join (has m a b) fail = fail
  join (has m a b) (all n g) = all (m + n) (conv a b g)

  -- the least surplus, from e to e + n, at which the load fits
  unfoldable pub close_at : ℕ → ℕ → ℕ → (ℕ → ℕ) → State
  close_at zero m e g = ifz (g e - τ.cu) (at_surplus m e g) lost
  close_at (suc n) m e g = ifz (g e - τ.cu) (at_surplus m e g) (close_at n m (suc e) g)

  unfoldable pub close : ℕ → Acc → State
  close n fail = lost
  close n (all m g) = close_at n m 0 g

  unfoldable pub leaf : ℕ → ℕ → ℕ → State
  leaf c s q = ifz ((q - s) + (s - q)) (ifz (c - τ.cu) (has 0 c c) lost) lost

  unfoldable pub acc : Hanging → ℕ → Acc
  acc none p = all 0 (λ e. 0)
  acc (sink i w c s r) p = join (wire τ.kind w (leaf c s) p) (acc r p)
  acc (branch i w f r) p = join (wire τ.kind w (λ q. close (2 * width f) (acc f q)) p) (acc r p)

  abbrev pub node : Hanging → ℕ → State
  node f p = close (2 * width f) (acc f p)

  abbrev pub root : Hanging → State
  root f = merge (node f 0) (node f 1)
