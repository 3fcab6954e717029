-- What the walk down is asked at each wire and settles of it, and what it comes to.
use Rattle.std.specs.Prelude.{ℕ, ◌+◌, ◌*◌, ◌≤◌, ◌<◌, min, ◌≡◌, List, length, get_or}
use Rattle.rules.specs.Figures.{most_places}
use Rattle.rules.specs.Net.{Net, places, parent, wire, kind}
use Rattle.rules.specs.Tree.{under, tree}
use Rattle.rules.specs.Sound.{SoundNet}
use Rattle.frontier.specs.Cell.{inv, Cell}
use Rattle.frontier.specs.Plan.{plan_of, count, Settled}
use Rattle.frontier.specs.Frontier.{State, lost, has, acc, close, width}
use Rattle.frontier.specs.Cert.{Table}
use Rattle.frontier.specs.Placed.{placed}
use Rattle.columns.specs.Columns.{Holds}
use Rattle.surplus.specs.declared.Slot.{Slot}
use Rattle.surplus.specs.declared.Closed.{Closed}
use Rattle.surplus.specs.Wires.{Alive, node_at}
use Rattle.surplus.specs.Dealt.{f3, Dealt}
use Rattle.surplus.specs.Choice.{Aim, Budgeted, offsets}
use Rattle.surplus.specs.Walk.{WireOk, Parts}
use Rattle.surplus.specs.Tables.{near_of, state_of, count_at, NearIs, WiresJoined, NodesClosed}
use Rattle.surplus.specs.Asks.{part_at}

-- no inverter is needed over s
abbrev pub Stays : State → ℕ → ℕ → ℕ → Type 0
Stays lost w m l = ⊥
Stays (has n a b) w m l = (n ≤ m) × (w + a ≤ l)

-- wire i, of size w, is to be cut under a point of polarity p, with the part s of its surplus
pub record Cutting (τ : Cell) (n : Net) (w : ℕ) (links : List ℕ) (slots : List Slot) (near : List Closed) (p s i : ℕ) : Type 0 where
  pub kind : τ.kind ≡ inv
  pub sound : SoundNet n
  pub lo : 1 ≤ i
  pub here : i < places n
  pub size : w ≡ wire n i
  pub low : p ≤ 1
  pub few : s ≤ 2
  pub joined : WiresJoined τ n links slots 1
  pub closed : NodesClosed τ n near 0
  pub parts : Parts τ n p i

-- and the part asks it to meet the count m and the load l, with k more at its upper end; its node's wires have the slot h
pub record Targeted (τ : Cell) (n : Net) (w : ℕ) (slots : List Slot) (near : List Closed) (p s h i m l k : ℕ) : Type 0 where
  pub kind : τ.kind ≡ inv
  pub sound : SoundNet n
  pub here : i < places n
  pub size : w ≡ wire n i
  pub low : p ≤ 1
  pub slot : h < most_places
  pub parts : Parts τ n p i
  pub aim : Aim τ s parts.m parts.a parts.b m l k
  pub counts : (q : ℕ) → q ≤ 1 → count_at slots q h ≤ 100000000001
  pub node : (q : ℕ) → q ≤ 1 → node_at τ n i q ≡ state_of (count_at slots q h) (near_of near q i)
  pub kept : (q : ℕ) → q ≤ 1 → NearIs τ n near q i

-- wire i is cut well: its node has the polarity q and the surplus e, and r inverters stand on it by spacing over a load f, k at its upper end
pub record Decided (τ : Cell) (n : Net) (p s i : ℕ) (pt : Parts τ n p i) (q e f r k : ℕ) : Type 0 where
  pub sense : q ≤ 1
  pub live : kind n i ≡ 0 → Alive (acc τ (under n i) q)
  pub sink : (kind n i ≡ 0 → ⊥) → e ≡ 0
  pub below : ℕ
  pub load : ℕ
  pub ok : (t : Table) → t.offs i ≡ offsets τ (wire n i) f r k → t.cnt i ≡ pt.m + s → t.top i ≡ f3 s pt.a pt.b (min pt.a τ.cb)
      → t.n i ≡ below → t.b i ≡ load → WireOk τ n t p i q e (kind n i)

-- the walk begins: the source has its polarity, and a surplus with which its count is N is dealt out; there is room for N entries
pub record Begun (τ : Cell) (n : Net) (senses parts : List ℕ) (N : ℕ) (ws os : List ℕ) : Type 0 where
  pub senses_long : length senses ≡ most_places
  pub parts_long : length parts ≡ most_places
  pub sense : get_or senses 0 0 ≤ 1
  pub left : ℕ
  pub load : ℕ
  pub more : ℕ
  pub is : close τ (2 * width (tree n)) (acc τ (tree n) (get_or senses 0 0)) ≡ has N load more
  pub budget : Budgeted (acc τ (tree n) (get_or senses 0 0)) left N load
  pub dealt : Dealt τ (part_at parts) (get_or senses 0 0) left (tree n)
  pub fresh : (j : ℕ) → 1 ≤ parent n j → part_at parts j ≡ 0
  pub in_wires : N ≤ length ws
  pub in_offsets : N ≤ length os

-- the entries of a plan that settles the tree with at most N stand in the columns
pub record Written (τ : Cell) (n : Net) (senses : List ℕ) (N : ℕ) (ws os ws' os' : List ℕ) : Type 0 where
  pub offs : ℕ → List ℕ
  pub settled : Settled τ (get_or senses 0 0) (tree n) (plan_of offs (tree n))
  pub few : count (tree n) (plan_of offs (tree n)) ≤ N
  pub holds : Holds (placed n offs) ws os ws' os'
