-- What is asked of the tables where a node's wires are gone through along their chain, and what comes of it.
use Rattle.std.specs.Prelude.{ℕ, zero, suc, ◌+◌, ◌-◌, ◌*◌, ◌≤◌, ◌<◌, min, ◌≡◌, Bool, true, false, List, length, get_or}
use Rattle.rules.specs.Figures.{most_places, most_children}
use Rattle.rules.specs.Tree.{Hanging, none, sink, branch}
use Rattle.frontier.specs.Cell.{Cell}
use Rattle.frontier.specs.Frontier.{State, lost, has, Acc, fail, all, acc, width}
use Rattle.surplus.specs.declared.Slot.{Slot}
use Rattle.surplus.specs.Rows.{load_at, SmallAcc, RowIs, Spread}
use Rattle.surplus.specs.Wires.{tip, Ordered, Each, On, Alive}
use Rattle.surplus.specs.Pairs.{NearOf}
use Rattle.surplus.specs.Links.{Chain}
use Rattle.surplus.specs.Dealt.{Shared, Dealt}
use Rattle.surplus.specs.Tables.{next_at, lo_at, hi_at, zero_at, one_at, SlotIs}

abbrev pub SmallTip : State → Type 0
SmallTip lost = Unit {0}
SmallTip (has m a b) = (a ≤ 1000000) × (b ≤ 1000000)

-- each wire's loads are small, and those of the wires after it
abbrev pub Smalls : Cell → ℕ → Hanging → Type 0
Smalls τ p none = Unit {0}
Smalls τ p (sink i w c s r) = SmallTip (tip τ p (sink i w c s r)) × SmallAcc (acc τ r p) × Smalls τ p r
Smalls τ p (branch i w f r) = SmallTip (tip τ p (branch i w f r)) × SmallAcc (acc τ r p) × Smalls τ p r

-- the chain from k on is that of the wires f, within the tables
pub record Runs (τ : Cell) (links : List ℕ) (slots : List Slot) (p k : ℕ) (f : Hanging) : Type 0 where
  pub chain : Chain τ (next_at links) (lo_at slots p) (hi_at slots p) p k f
  pub live : Alive (acc τ f p)
  pub order : Ordered 1 f
  pub low : Each (λ j. j < most_places) f
  pub smalls : Smalls τ p f
  pub few : width f ≤ most_children

pub record Running (τ : Cell) (links : List ℕ) (slots : List Slot) (p k : ℕ) : Type 0 where
  pub f : Hanging
  pub runs : Runs τ links slots p k f

-- ---- the rows
-- the n wires f have their rows
pub record Rows (τ : Cell) (rows : List ℕ) (p n : ℕ) (f : Hanging) : Type 0 where
  pub wide : width f ≡ n
  pub spread : Spread τ rows p f

-- (h, h₁, o) is kept of a node whose m wires have their row in `rows`
abbrev pub CloseIs : Cell → List ℕ → ℕ → ℕ → ℕ → ℕ → Type 0
CloseIs τ rows m h h₁ o = (z : Acc) → RowIs (load_at rows (m * m) (m * 2)) z → NearOf τ (m * 2) z h h₁ o

abbrev pub ClosedIs : Cell → ℕ → Hanging → ℕ → ℕ → ℕ → Type 0
ClosedIs τ p f h h₁ o = NearOf τ (2 * width f) (acc τ f p) h h₁ o

-- the slot k is of the wires f, which are its chain where each has a state
pub record AsksClose (τ : Cell) (links : List ℕ) (slots : List Slot) (p k : ℕ) (f : Hanging) : Type 0 where
  pub slot : SlotIs slots p k (acc τ f p)
  pub runs : Alive (acc τ f p) → Runs τ links slots p k f

pub record AskedClose (τ : Cell) (links : List ℕ) (slots : List Slot) (p k : ℕ) : Type 0 where
  pub f : Hanging
  pub asks : AsksClose τ links slots p k f

-- ---- the dealing
-- the slot k has the loads of z for a surplus of 0 and of 1
abbrev pub PairIs : List Slot → ℕ → ℕ → Acc → Type 0
PairIs slots p k fail = ⊥
PairIs slots p k (all m g) = (zero_at slots p k ≡ g 0) × (one_at slots p k ≡ g 1)

-- and so each slot of the chain, and 0 at its end
abbrev pub Paired : Cell → List ℕ → List Slot → ℕ → ℕ → Hanging → Type 0
Paired τ links slots p k none = PairIs slots p k (acc τ none p)
Paired τ links slots p k (sink i w c s r) = PairIs slots p k (acc τ (sink i w c s r) p) × Paired τ links slots p (next_at links i) r
Paired τ links slots p k (branch i w f r) = PairIs slots p k (acc τ (branch i w f r) p) × Paired τ links slots p (next_at links i) r

abbrev pub part_at : List ℕ → ℕ → ℕ
part_at parts j = get_or parts j 0

-- the wires f, along the chain from k on, have no parts yet
pub record Asks (τ : Cell) (links : List ℕ) (slots : List Slot) (parts : List ℕ) (p k : ℕ) (f : Hanging) : Type 0 where
  pub long : length parts ≡ most_places
  pub runs : Runs τ links slots p k f
  pub paired : Paired τ links slots p k f
  pub clear : (j : ℕ) → On j f → part_at parts j ≡ 0

pub record Asked (τ : Cell) (links : List ℕ) (slots : List Slot) (parts : List ℕ) (p k : ℕ) : Type 0 where
  pub f : Hanging
  pub asks : Asks τ links slots parts p k f

-- the surplus e is dealt to the wires f, and every other part is as it was
pub record Out (τ : Cell) (parts₀ parts : List ℕ) (p e : ℕ) (f : Hanging) : Type 0 where
  pub long : length parts ≡ most_places
  pub dealt : Dealt τ (part_at parts) p e f
  pub kept : (j : ℕ) → (On j f → ⊥) → part_at parts j ≡ part_at parts₀ j

-- how far the chain can go on
abbrev pub to_end : ℕ → ℕ
to_end zero = 0
to_end (suc j) = most_places - j

-- wire j hands up less with one more by more than the wires after it, which have the slot k
abbrev pub Gains : List Slot → ℕ → ℕ → ℕ → Bool → Type 0
Gains slots p j k true = hi_at slots p j + zero_at slots p k < lo_at slots p j + one_at slots p k
Gains slots p j k false = lo_at slots p j + one_at slots p k ≤ hi_at slots p j + zero_at slots p k

-- what wire j takes of e, where the row of the m wires after it stands at the square of m
abbrev pub PartIs : Cell → List ℕ → List Slot → ℕ → ℕ → ℕ → ℕ → ℕ → Type 0
PartIs τ rows slots p j m e s = Shared (load_at rows (m * m) (m * 2)) e (lo_at slots p j) (hi_at slots p j) (min (lo_at slots p j) τ.cb) s

-- and the rows of the n wires stand in `rows`
pub record AsksMore (τ : Cell) (rows links : List ℕ) (slots : List Slot) (parts : List ℕ) (p k n : ℕ) (f : Hanging) : Type 0 where
  pub asks : Asks τ links slots parts p k f
  pub made : Rows τ rows p n f

pub record AskedMore (τ : Cell) (rows links : List ℕ) (slots : List Slot) (parts : List ℕ) (p k n : ℕ) : Type 0 where
  pub f : Hanging
  pub asks : AsksMore τ rows links slots parts p k n f
