-- What one turn of the way up asks and answers.
use Rattle.std.specs.Prelude.{ℕ, zero, suc, ◌≤◌, ◌<◌, ◌≡◌, List}
use Rattle.rules.specs.Net.{Net, places, parent, wire}
use Rattle.rules.specs.Tree.{Hanging}
use Rattle.rules.specs.Sound.{SoundNet}
use Rattle.frontier.specs.Cell.{inv, Cell}
use Rattle.frontier.specs.Frontier.{leaf}
use Rattle.surplus.specs.declared.Slot.{Slot}
use Rattle.surplus.specs.declared.Closed.{Closed}
use Rattle.surplus.specs.Tables.{state_of, NearIs, WiresJoined}
use Rattle.surplus.specs.Asks.{ClosedIs}

-- what is kept of a node at the polarity q, by its kind: f is what hangs there
abbrev pub SideIs : Cell → ℕ → ℕ → ℕ → ℕ → Hanging → Closed → Type 0
SideIs τ zero c s q f r = ClosedIs τ q f r.load r.more r.over
SideIs τ (suc k) c s q f r = leaf τ c s q ≡ state_of 1 r

-- wire i, of size w, is to be hung under v: the wires after it are joined and its own node is closed
pub record Hangs (τ : Cell) (n : Net) (w : ℕ) (links : List ℕ) (slots : List Slot) (near : List Closed) (v i : ℕ) : Type 0 where
  pub kind : τ.kind ≡ inv
  pub sound : SoundNet n
  pub lo : 1 ≤ i
  pub here : i < places n
  pub size : w ≡ wire n i
  pub parent : v ≡ parent n i
  pub joined : WiresJoined τ n links slots (suc i)
  pub closed : (p : ℕ) → p ≤ 1 → NearIs τ n near p i
