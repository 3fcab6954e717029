-- The entries that are added to the given ones, wire after wire: what the walks through both ask, and where they come to.
use Rattle.std.specs.Prelude.{ℕ, ◌+◌, ◌-◌, ◌*◌, ◌≤◌, ◌<◌, ◌≡◌, List, [], ◌++◌, length, get_or, replicate}
use Rattle.std.proofs.lemmas.List.Edits.{sets}
use Rattle.rules.specs.declared.Entry.{Entry}
use Rattle.rules.specs.Figures.{most_wire, most_places, most_entries}
use Rattle.rules.specs.Load.{entries, offsets_on}
use Rattle.rules.proofs.Order.{Rising}
use Rattle.frontier.specs.Cell.{Cell}
use Rattle.frontier.specs.Placed.{on_wires}
use Rattle.relief.specs.Pieces.{most_piece, added_from}
use Rattle.relief.specs.Runs.{from, Sorted, past}
use Rattle.states.specs.States.{model_of}
use Rattle.adding.specs.declared.Half.{Half}
use Rattle.adding.specs.declared.Wire.{Wire}
use Rattle.adding.specs.declared.Walked.{Walked}

-- what is added to wire i: its size, what lies below it and whether it is topped are in tables, and g are the given entries
abbrev pub added_on : Cell → List ℕ → List ℕ → List ℕ → List Entry → ℕ → List ℕ
added_on τ sizes below on g i = added_from τ (get_or sizes i 0) (get_or on i 0) 0 (get_or below i 0) (offsets_on g i)

-- to all the wires
abbrev pub all_added : Cell → List ℕ → List ℕ → List ℕ → List Entry → List Entry
all_added τ sizes below on g = on_wires (added_on τ sizes below on g) (length sizes - 1) 1

-- what the walks ask of the tables and of the given entries' columns ws and os
pub record Ready (τ : Cell) (sizes below on ws os : List ℕ) : Type 0 where
  pub same : length os ≡ length ws
  pub few : length ws ≤ most_entries
  pub wires : length sizes ≤ most_places
  pub in_below : length sizes ≤ length below
  pub in_on : length sizes ≤ length on
  pub size : (i : ℕ) → get_or sizes i 0 ≤ most_wire
  pub fits : (i : ℕ) → 1 ≤ i → i < length sizes → get_or below i 0 ≤ τ.cu
  pub sorted : Sorted 1 (entries ws os)
  pub rises : (i : ℕ) → Rising (get_or sizes i 0) 0 (offsets_on (entries ws os) i)

-- wire i out of the tables
pub record IsWire (ws bs ts : List ℕ) (i : ℕ) (x : Wire) : Type 0 where
  pub number : x.number ≡ i
  pub size : x.size ≡ get_or ws i 0
  pub below : x.below ≡ get_or bs i 0
  pub top : x.top ≡ get_or ts i 0
  pub few : x.top ≤ 255

-- what a walk through the given entries of wire x asks, from entry e on
pub record Begins (τ : Cell) (ws os : List ℕ) (e : ℕ) (x : Wire) : Type 0 where
  pub same : length os ≡ length ws
  pub few : length ws ≤ most_entries
  pub within : e ≤ length ws
  pub size : x.size ≤ most_wire
  pub fits : x.below ≤ τ.cu
  pub sorted : Sorted x.number (from ws os e)
  pub rises : Rising x.size 0 (offsets_on (from ws os e) x.number)

-- the first given entries of wire x are passed: `done` is added below and between them, and es are left; whatever the wire's size and its top, what is to be added is
-- what is added from `at` on, where b hangs
pub record Through (τ : Cell) (x : Wire) (all : List Entry) (done : List ℕ) (at b : ℕ) (es : List Entry) : Type 0 where
  pub left : (w k : ℕ) → added_from τ w k 0 x.below (offsets_on all x.number) ≡ done ++ added_from τ w k at b (offsets_on es x.number)
  pub rest : past x.number es ≡ past x.number all
  pub rises : Rising x.size at (offsets_on es x.number)
  pub sorted : Sorted x.number es
  pub fits : b ≤ τ.cu

-- and so are all of them
pub record Passed (τ : Cell) (ws os : List ℕ) (e : ℕ) (x : Wire) (k : ℕ) (r : Walked) (done : List ℕ) : Type 0 where
  pub through : Through τ x (from ws os e) done r.at r.load (from ws os r.next)
  pub clear : offsets_on (from ws os r.next) x.number ≡ []
  pub next : from ws os r.next ≡ past x.number (from ws os e)
  pub to : r.to ≡ k + length done
  pub within : r.next ≤ length ws
  pub few : r.to ≤ k + r.next * most_piece

-- the lent columns after vs are stored for wire i from the place `to` on
pub record Stores (vs : List ℕ) (i to : ℕ) (wires offs wires' offs' : List ℕ) : Type 0 where
  pub wires_are : wires' ≡ sets wires to (replicate (length vs) i)
  pub offs_are : offs' ≡ sets offs to vs

-- the given entries of wire x are passed, and what is added below and between them is counted
abbrev pub Counts : Cell → List ℕ → List ℕ → ℕ → Wire → ℕ → Walked → Type 0
Counts τ ws os e x k r = (done : List ℕ) × Passed τ ws os e x k r done

-- or written
abbrev pub Wrote : Cell → List ℕ → List ℕ → ℕ → Wire → ℕ → Walked → List ℕ → List ℕ → List ℕ → List ℕ → Type 0
Wrote τ ws os e x k r wires offs wires' offs' = (done : List ℕ) × Passed τ ws os e x k r done × Stores done x.number k wires offs wires' offs'

-- all of wire x
pub record WroteAll (τ : Cell) (ws os : List ℕ) (e : ℕ) (x : Wire) (k : ℕ) (r : Walked) (wires offs wires' offs' : List ℕ) : Type 0 where
  pub to : r.to ≡ k + length (added_from τ x.size x.top 0 x.below (offsets_on (from ws os e) x.number))
  pub next : from ws os r.next ≡ past x.number (from ws os e)
  pub within : r.next ≤ length ws
  pub stores : Stores (added_from τ x.size x.top 0 x.below (offsets_on (from ws os e) x.number)) x.number k wires offs wires' offs'

-- there is room for vs from the place `to` on
pub record Room (vs : List ℕ) (to : ℕ) (wires offs : List ℕ) : Type 0 where
  pub in_wires : to + length vs ≤ length wires
  pub in_offs : to + length vs ≤ length offs

-- ---- of a half-buffered net
abbrev pub given_wires : Half → List ℕ
given_wires h = h.given.now.wires.now

abbrev pub given_offsets : Half → List ℕ
given_offsets h = h.given.now.offsets.now

abbrev pub added : Half → List Entry
added h = all_added (model_of h.cell) h.wire.now h.tables.now.below h.tables.now.on (entries (given_wires h) (given_offsets h))

abbrev pub IsReady : Half → Type 0
IsReady h = Ready (model_of h.cell) h.wire.now h.tables.now.below h.tables.now.on (given_wires h) (given_offsets h)

abbrev pub begun : Wire → ℕ → ℕ → Walked
begun x next to = record { next = next; to = to; at = 0; load = x.below }

abbrev pub BeginsIn : Half → ℕ → Wire → Type 0
BeginsIn h = Begins (model_of h.cell) (given_wires h) (given_offsets h)

abbrev pub CountsIn : Half → ℕ → Wire → ℕ → Walked → Type 0
CountsIn h = Counts (model_of h.cell) (given_wires h) (given_offsets h)

abbrev pub WroteIn : Half → ℕ → Wire → ℕ → Walked → List ℕ → List ℕ → List ℕ → List ℕ → Type 0
WroteIn h = Wrote (model_of h.cell) (given_wires h) (given_offsets h)

abbrev pub WroteAllIn : Half → ℕ → Wire → ℕ → Walked → List ℕ → List ℕ → List ℕ → List ℕ → Type 0
WroteAllIn h = WroteAll (model_of h.cell) (given_wires h) (given_offsets h)
