-- What the test for a wire without inverters says, and what a node's surplus handed on comes to.
use Rattle.std.specs.Prelude.{ℕ, ◌≡◌, List, Bool, true, false}
use Rattle.rules.specs.Tree.{Hanging}
use Rattle.frontier.specs.Cell.{Cell}
use Rattle.frontier.specs.Frontier.{State}
use Rattle.surplus.specs.declared.Slot.{Slot}
use Rattle.surplus.specs.Tables.{head_at}
use Rattle.surplus.specs.Asks.{Asks, Out}
use Rattle.surplus.specs.Descent.{Stays}

abbrev pub StaysIf : Bool → State → ℕ → ℕ → ℕ → Type 0
StaysIf true s w m l = Stays s w m l
StaysIf false s w m l = Unit {0}

-- node i's surplus e is dealt out to its wires; where there is none, no part is changed
pub record Handed (τ : Cell) (links : List ℕ) (slots : List Slot) (parts : List ℕ) (p i e : ℕ) (parts' : List ℕ) : Type 0 where
  pub none : e ≡ 0 → parts' ≡ parts
  pub dealt : (e ≡ 0 → ⊥) → (f : Hanging) → Asks τ links slots parts p (head_at links i) f → Out τ parts parts' p e f
