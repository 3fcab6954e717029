-- Which placements are legal (RULES 2.16), and the least count (RULES 2.18). One statement for buffers and inverters.
use Rattle.std.specs.Prelude.{ℕ, zero, suc, ◌+◌, ◌*◌, ◌%◌, ◌≤◌, ◌<◌, ◌≡◌, List, [], ◌∷◌, length, eqb}
use Rattle.rules.specs.Choose.{pick}
use Rattle.rules.specs.declared.Entry.{Entry}
use Rattle.rules.specs.Net.{Net, places, parent, wire, kind, polarity}
use Rattle.rules.specs.Load.{offsets_on, drivers}

-- each element of a list
abbrev pub Each : (ℕ → Type 0) → List ℕ → Type 0
Each P [] = Unit {0}
Each P (x ∷ xs) = P x × Each P xs

-- RULES 2.4 and 2.5: e may come after d
pub data After (d e : Entry) : Type 0 where
  higher : d.wire < e.wire → After d e
  further : d.wire ≡ e.wire → d.offset ≤ e.offset → After d e

-- RULES 2.3
pub record Stands (n : Net) (e : Entry) : Type 0 where
  pub above : 1 ≤ e.wire
  pub within : e.wire < places n
  pub offset : e.offset ≤ wire n e.wire

-- the entries of p stand, each after the one before it; d comes before the first
abbrev pub InOrder : Net → Entry → List Entry → Type 0
InOrder n d [] = Unit {0}
InOrder n d (e ∷ es) = After d e × Stands n e × InOrder n e es

-- before every entry that stands on a wire
abbrev pub start : Entry
start = record { wire = 0; offset = 0 }

-- the entries on the way from the source to node i. k steps upward are enough where parents have lower numbers and i is at most k
unfoldable pub on_the_way : Net → (ℕ → List ℕ) → ℕ → ℕ → ℕ
on_the_way n offs zero i = 0
on_the_way n offs (suc k) i = let higher = on_the_way n offs k (parent n i) in pick (eqb i 0) 0 (length (offs i) + higher)

-- the inverters above a sink: an entry of type 1 inverts, one of type 0 does not (RULES 2.15)
unfoldable pub inverters : Net → (ℕ → List ℕ) → ℕ → ℕ
inverters n offs i = n.limits.repeater * on_the_way n offs i i

pub record Sink (n : Net) (i : ℕ) : Type 0 where
  pub node : 1 ≤ i
  pub within : i < places n
  pub sink : kind n i ≡ 1

-- 0 or 1: the sense that the source would need for sink i to have its polarity
abbrev pub sense : Net → (ℕ → List ℕ) → ℕ → ℕ
sense n offs i = (inverters n offs i + polarity n i) % 2

-- RULES 2.13: the sums of inverters and polarity are all even or all odd
pub record OneSense (n : Net) (offs : ℕ → List ℕ) : Type 0 where
  pub one : ℕ
  pub same : (i : ℕ) → Sink n i → sense n offs i ≡ one

-- RULES 2.16: every entry stands in order, no driver is over the limit (RULES 2.12; the source is the last of the drivers), and parity
pub record Legal (n : Net) (p : List Entry) : Type 0 where
  pub stands : InOrder n start p
  pub loads : Each (λ load. load ≤ n.limits.limit) (drivers n p)
  pub parity : OneSense n (offsets_on p)

-- k is the count of some legal placement and of none fewer
pub record Least (n : Net) (k : ℕ) : Type 0 where
  pub placement : List Entry
  pub legal : Legal n placement
  pub count : length placement ≡ k
  pub fewest : (p : List Entry) → Legal n p → k ≤ length p

-- RULES 2.18: there may be none
abbrev pub NoneLegal : Net → Type 0
NoneLegal n = (p : List Entry) → Legal n p → ⊥
