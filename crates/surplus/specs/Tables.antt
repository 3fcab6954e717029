-- The solver's tables, and what they hold once the wires from i on are joined.
use Rattle.std.specs.Prelude.{ℕ, zero, suc, ◌+◌, ◌-◌, ◌*◌, ◌≤◌, ◌<◌, ◌≡◌, List, length, get_or}
use Rattle.rules.specs.Figures.{most_places}
use Rattle.rules.specs.Net.{Net, places, parent, kind, pin, polarity}
use Rattle.rules.specs.Tree.{hanging, under}
use Rattle.frontier.specs.Cell.{Cell}
use Rattle.frontier.specs.Frontier.{State, Acc, acc, join, leaf, width}
use Rattle.surplus.specs.declared.Slot.{Slot}
use Rattle.surplus.specs.declared.Closed.{Closed}
use Rattle.surplus.specs.Wires.{lift_of}
use Rattle.surplus.specs.Pairs.{PairOf, NearOf, near_state, Kept}
use Rattle.surplus.specs.Links.{Links}

-- a wire's next one and a node's first
abbrev pub next_at : List ℕ → ℕ → ℕ
next_at links j = get_or links (j * 2) 0

abbrev pub head_at : List ℕ → ℕ → ℕ
head_at links v = get_or links (v * 2 + 1) 0

-- the other tables have two places for each wire or node, one a polarity
abbrev pub side : ℕ → ℕ → ℕ
side p j = j * 2 + p

abbrev pub no_slot : Slot
no_slot = record { count = 0; load = 0; more = 0; all_load = 0; all_more = 0 }

abbrev pub slot_of : List Slot → ℕ → ℕ → Slot
slot_of slots p j = get_or slots (side p j) no_slot

abbrev pub not_closed : Closed
not_closed = record { load = 0; more = 0; over = 0 }

abbrev pub near_of : List Closed → ℕ → ℕ → Closed
near_of near p j = get_or near (side p j) not_closed

-- a slot has the wire's own two loads, and the two of the wires from it on
abbrev pub lo_at : List Slot → ℕ → ℕ → ℕ
lo_at slots p j = (slot_of slots p j).load

abbrev pub hi_at : List Slot → ℕ → ℕ → ℕ
hi_at slots p j = (slot_of slots p j).more

abbrev pub zero_at : List Slot → ℕ → ℕ → ℕ
zero_at slots p j = (slot_of slots p j).all_load

abbrev pub one_at : List Slot → ℕ → ℕ → ℕ
one_at slots p j = (slot_of slots p j).all_more

-- and one more than their count
abbrev pub count_at : List Slot → ℕ → ℕ → ℕ
count_at slots p j = (slot_of slots p j).count

-- the slot x is of the wires that are worth z
abbrev pub SlotOf : Slot → Acc → Type 0
SlotOf x z = PairOf x.count x.all_load x.all_more z

abbrev pub SlotIs : List Slot → ℕ → ℕ → Acc → Type 0
SlotIs slots p k z = SlotOf (slot_of slots p k) z

-- its wire is worth s
abbrev pub Loads : State → Slot → Type 0
Loads s x = Kept s x.load x.more

-- its numbers are small, where it has a count
abbrev pub Small : Slot → Type 0
Small x = (x.count ≡ 0 → ⊥) → (x.count ≤ 100000000001) × (x.all_load ≤ 2000000000) × (x.all_more ≤ 2000000000)

abbrev pub SlotSmall : List Slot → ℕ → ℕ → Type 0
SlotSmall slots p k = Small (slot_of slots p k)

-- wire i, of the state s, is hung before the wires of the slot `from`, and every other place is as it was
pub record Hung (p from i : ℕ) (s : State) (slots slots' : List Slot) : Type 0 where
  pub slots_long : length slots' ≡ length slots
  pub slots_kept : (k : ℕ) → (k ≡ side p i → ⊥) → get_or slots' k no_slot ≡ get_or slots k no_slot
  pub kept : Kept s (lo_at slots' p i) (hi_at slots' p i)
  pub slot : (τ : Cell) (z : Acc) → SlotIs slots p from z → SlotIs slots' p i (join τ s z)

-- the state that is kept, over the slot's count c
abbrev pub state_of : ℕ → Closed → State
state_of c r = near_state c r.load r.more r.over

-- what is kept of node j, by its kind
abbrev pub NodeNear : Cell → Net → ℕ → ℕ → ℕ → Closed → Type 0
NodeNear τ n p j zero r = NearOf τ (2 * width (under n j)) (acc τ (under n j) p) r.load r.more r.over
NodeNear τ n p j (suc k) r = leaf τ (pin n j) (polarity n j) p ≡ state_of 1 r

abbrev pub NearIs : Cell → Net → List Closed → ℕ → ℕ → Type 0
NearIs τ n near p j = NodeNear τ n p j (kind n j) (near_of near p j)

-- the wires from i on are joined
pub record WiresJoined (τ : Cell) (n : Net) (links : List ℕ) (slots : List Slot) (i : ℕ) : Type 0 where
  pub links_long : length links ≡ most_places * 2
  pub slots_long : length slots ≡ most_places * 2
  pub linked : Links n (next_at links) (head_at links) i
  pub end : (p : ℕ) → p ≤ 1 → (count_at slots p 0 ≡ 1) × (zero_at slots p 0 ≡ 0) × (one_at slots p 0 ≡ 0)
  pub slot : (j p : ℕ) → i ≤ j → 1 ≤ j → j < places n → p ≤ 1 → SlotIs slots p j (acc τ (hanging n (places n - j) (parent n j)) p)
  pub kept : (j p : ℕ) → i ≤ j → 1 ≤ j → j < places n → p ≤ 1 → Kept (lift_of τ n j p) (lo_at slots p j) (hi_at slots p j)

-- the nodes from i on are closed
pub record NodesClosed (τ : Cell) (n : Net) (near : List Closed) (i : ℕ) : Type 0 where
  pub near_long : length near ≡ most_places * 2
  pub is : (j p : ℕ) → i ≤ j → j < places n → p ≤ 1 → NearIs τ n near p j

pub record Filled (τ : Cell) (n : Net) (links : List ℕ) (slots : List Slot) (near : List Closed) (i : ℕ) : Type 0 where
  pub joined : WiresJoined τ n links slots i
  pub closed : NodesClosed τ n near i
