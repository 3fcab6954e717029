-- The code's numbers as the frontier's.
use Rattle.std.specs.Prelude.{ℕ, Option, Some, None, ◌+◌, ◌≤◌, ◌≡◌}
use Rattle.rules.specs.declared.Limits.{Limits}
use Rattle.frontier.specs.Cell as model
use Rattle.frontier.specs.Frontier.{State, lost, has, via, merge}
use Rattle.states.specs.declared.Cell.{Cell}
use Rattle.states.specs.declared.State.{State as Kept}
use Rattle.states.specs.declared.Sides.{Sides}

abbrev pub model_of : Cell → model.Cell
model_of c = record { kind = model.kind_of c.repeater; cu = c.limit; cb = c.pin; D = c.span }

abbrev pub limits_of : Cell → Limits
limits_of c = record { limit = c.limit; pin = c.pin; repeater = c.repeater }

-- what a node or a wire is worth, which is lost where nothing is kept of it
abbrev pub st : Option Kept → State
st None = lost
st (Some s) = has s.count s.load s.more

-- the limits are in their ranges (RULES 1.9)
pub record CellOk (c : Cell) : Type 0 where
  pub eq : c.limit ≡ c.pin + c.span
  pub pos : 1 ≤ c.span
  pub small : c.limit ≤ 1000000
  pub kind : c.repeater ≤ 1

-- a state with a count of at most n, and loads of at most 1,000,000
abbrev pub SmallS : ℕ → State → Type 0
SmallS n lost = Unit {0}
SmallS n (has m a b) = (m ≤ n) × (a ≤ 1000000) × (b ≤ 1000000)

abbrev pub Small : ℕ → Option Kept → Type 0
Small n s = SmallS n (st s)

-- the second load is at most the first
abbrev pub Falls : State → Type 0
Falls lost = Unit {0}
Falls (has m a b) = b ≤ a

-- a wire over the node's states at the wire's own polarity and at the other
unfoldable pub wire_of : model.Cell → model.Kind → ℕ → State → State → State
wire_of τ model.buf w same other = via τ model.buf 0 w same
wire_of τ model.inv w same other = merge (via τ model.inv 0 w same) (via τ model.inv 1 w other)

-- r is what a wire of size w is worth at both polarities, where its node has the states p at plus and q at minus
pub record Lifted (τ : model.Cell) (w : ℕ) (p q : State) (r : Sides) : Type 0 where
  pub plus : st r.plus ≡ wire_of τ model.inv w p q
  pub minus : st r.minus ≡ wire_of τ model.inv w q p
