-- The source: its state is the frontier's root, so a count there is the least and a lost state means that no placement is legal; and the walk from it ends in a least placement.
use Prim.Native.Nat.{ℕ, zero, suc, ◌-◌, ◌*◌, ◌≤◌, ◌<◌, min}
use mathlib.Core.Path.{◌≡◌, refl, sym, subst, ap, ◌∙◌}
use mathlib.Core.List.{List}
use Rattle.std.proofs.Common.{Bool, true, false, ltb}
use Rattle.std.proofs.lemmas.Bool.{ltb-true, ltb-false}
use mir.Val.{bool_byte}
use native.Mathlib.Omega.{arith}
use native.Mathlib.Decide.{ℕ_discrete}
use lib.ListN.{length, set, replicate, length-set, length-replicate}
use lib.Seq.{get_or-set_same}
use Rattle.rules.specs.declared.Entry.{Entry}
use Rattle.rules.specs.Figures.{most_places}
use Rattle.rules.specs.Net.{Net, places, parent, kind, pin, polarity}
use Rattle.rules.specs.Tree.{tree}
use Rattle.rules.specs.Legal.{Legal, Least, NoneLegal}
use Rattle.rules.specs.Sound.{SoundNet}
use Rattle.frontier.specs.Cell as model
use Rattle.frontier.specs.Plan.{plan_of, Settled}
use Rattle.frontier.specs.Frontier.{State, lost, has, Acc, fail, all, merge, acc, close, width}
use Rattle.frontier.specs.Frontier as frontier
use Rattle.frontier.specs.Placed.{placed}
use Rattle.frontier.proofs.Best.{merge_least}
use Rattle.frontier.proofs.LeastCount.{least_if_has, none_if_lost, placed_is_least}
use Rattle.states.specs.declared.Cell.{Cell}
use Rattle.states.specs.States.{model_of, limits_of, CellOk}
use Rattle.states.proofs.Leaves.{model_is}
use Rattle.columns.specs.Columns.{room_in}
use Rattle.surplus.specs.declared.Slot.{Slot}
use Rattle.surplus.specs.declared.Closed.{Closed}
use Rattle.surplus.specs.Wires.{Alive, side_of}
use Rattle.surplus.specs.Links.{First}
use Rattle.surplus.specs.Dealt.{Dealt}
use Rattle.surplus.specs.Choice.{Under, Budgeted}
use Rattle.surplus.specs.Tables.{head_at, near_of, state_of, count_at, WiresJoined, NodesClosed}
use Rattle.surplus.specs.Asks.{part_at, Asks, Out}
use Rattle.surplus.specs.Descent.{Begun, Written}
use Rattle.surplus.proofs.Bounds.{acc_small}
use Rattle.surplus.proofs.Hanging.{count_small}
use Rattle.surplus.proofs.Pairs.{near_0}
use Rattle.surplus.proofs.Dealing.{dealt_0}
use Rattle.surplus.proofs.Passing.{hanging_each}
use Rattle.surplus.proofs.Meeting.{slot_at, asks_under, not_ours}
use Rattle.surplus.proofs.Filling.{own_first, node_is}
use Rattle.surplus.proofs.Deciding.{over_some, near_branch}
use Rattle.surplus.proofs.Descending.{sense_at}
use Rattle.tables.proofs.Starting.{get_or-zeros}
use Rattle.walk.specs.Steps.{Handed}
use Rattle.inverted.specs.Source.{at_sense, Picks, Rooted}

-- ---- which polarity
least_of : (a b : State) (m x y n u v : ℕ) → a ≡ has m x y → b ≡ has n u v → (N p q : ℕ) → merge a b ≡ has N p q → N ≡ min m n
least_of a b m x y n u v e f N p q r = merge_least m x y n u v N p q (sym (ap (λ (s : State). merge s (has n u v)) e) ∙ ap (merge a) (sym f) ∙ r)

pub picks_less : (a b : State) (m x y n u v : ℕ) → a ≡ has m x y → b ≡ has n u v → n < m → Picks a b 1
picks_less a b m x y n u v e f h = record {
  few = omega arith;
  is = λ N p q r. (u, v, f ∙ ap (λ (k : ℕ). has k u v) (let z : n ≡ N = omega (arith, least_of a b m x y n u v e f N p q r) in z));
}

pub picks_more : (a b : State) (m x y n u v : ℕ) → a ≡ has m x y → b ≡ has n u v → m ≤ n → Picks a b 0
picks_more a b m x y n u v e f h = record {
  few = omega arith;
  is = λ N p q r. (x, y, e ∙ ap (λ (k : ℕ). has k x y) (let z : m ≡ N = omega (arith, least_of a b m x y n u v e f N p q r) in z));
}

-- by their counts
pub picks_by : (a b : State) (m x y n u v : ℕ) → a ≡ has m x y → b ≡ has n u v → Picks a b (bool_byte (ltb n m))
picks_by a b m x y n u v e f = go (ltb n m) refl
  where
    go : (t : Bool) → ltb n m ≡ t → Picks a b (bool_byte t)
    go true q = picks_less a b m x y n u v e f (ltb-true n m q)
    go false q = picks_more a b m x y n u v e f (ltb-false n m q)

-- ---- out of the tables
module _ {c : Cell} (ok : CellOk c) {n : Net} (sound : SoundNet n) {links : List ℕ} {slots : List Slot} {near : List Closed}
    (w : WiresJoined (model_of c) n links slots 1) (cl : NodesClosed (model_of c) n near 0) where
  first : First n 1 0 (head_at links 0)
  first = own_first (model_of c) sound w (omega arith) sound.some

  pub head_low : head_at links 0 < most_places
  head_low = omega (arith, first.low, sound.few)

  pub head_count : (p : ℕ) → p ≤ 1 → count_at slots p (head_at links 0) ≤ 100000000001
  head_count p lp =
      count_small slots p (head_at links 0) (acc (model_of c) (tree n) p) (slot_at (model_of c) w lp 1 0 (head_at links 0) (omega arith) first)
      (acc_small (model_of c) ok.eq ok.pos ok.small sound (places n - 1) 0 p (omega (arith, sound.some)) lp)

  node_close : (p κ : ℕ) → κ ≡ 0 → side_of (model_of c) κ (pin n 0) (polarity n 0) (2 * width (tree n)) (acc (model_of c) (tree n) p) p ≡ close (model_of c) (2 * width (tree n)) (acc (model_of c) (tree n) p)
  node_close p zero e = refl
  node_close p (suc κ) e = absurd (omega arith)

  -- what is kept of the source is its state
  pub source_is : {p h : ℕ} {x : State} → p ≤ 1 → h ≡ head_at links 0 → x ≡ state_of (count_at slots p h) (near_of near p 0) → x ≡ close (model_of c) (2 * width (tree n)) (acc (model_of c) (tree n) p)
  source_is {p} {h} lp e ex =
      ex ∙ ap (λ (k : ℕ). state_of (count_at slots p k) (near_of near p 0)) e
      ∙ sym (node_is (model_of c) sound w (omega arith) sound.some near lp (cl.is 0 p (omega arith) sound.some lp)) ∙ node_close p (kind n 0) sound.source

  module _ {h : ℕ} {x y : State} (e : h ≡ head_at links 0) (ex : x ≡ state_of (count_at slots 0 h) (near_of near 0 0)) (ey : y ≡ state_of (count_at slots 1 h) (near_of near 1 0)) where
    pub root_is : {z : State} → merge x y ≡ z → frontier.root (model_of c) (tree n) ≡ z
    root_is q = sym (ap (λ (s : State). merge s y) (source_is (omega arith) e ex) ∙ ap (merge (close (model_of c) (2 * width (tree n)) (acc (model_of c) (tree n) 0))) (source_is (omega arith) e ey)) ∙ q

    at_sense_lem : (p : ℕ) → p ≤ 1 → at_sense p x y ≡ close (model_of c) (2 * width (tree n)) (acc (model_of c) (tree n) p)
    at_sense_lem zero l = source_is (omega arith) e ex
    at_sense_lem (suc zero) l = source_is (omega arith) e ey
    at_sense_lem (suc (suc p)) l = absurd (omega arith)

    pub rooted : {p N a b : ℕ} → Picks x y p → merge x y ≡ has N a b → Rooted (model_of c) n p N
    rooted {p} {N} {a} {b} k q =
        let (h, h₁, r) = k.is N a b q in
        record { few = k.few; load = h; more = h₁; is = sym (at_sense_lem p k.few) ∙ r; a = a; b = b; root = root_is q }

  -- ---- the walk's beginning
  module _ {p N : ℕ} (r : Rooted (model_of c) n p N) where
    under_source : Under (close (model_of c) (2 * width (tree n)) (acc (model_of c) (tree n) p)) 0 N r.load
    under_source = subst (λ (s : State). Under s 0 N r.load) (sym r.is) (refl, refl)

    state_is : close (model_of c) (2 * width (tree n)) (acc (model_of c) (tree n) p) ≡ state_of (count_at slots p (head_at links 0)) (near_of near p 0)
    state_is = sym (source_is r.few refl refl)

    pub some : 1 ≤ (near_of near p 0).over
    some = over_some (count_at slots p (head_at links 0)) (near_of near p 0) 0 N r.load (subst (λ (s : State). Under s 0 N r.load) state_is under_source)

    budget : Budgeted (acc (model_of c) (tree n) p) ((near_of near p 0).over - 1) N r.load
    budget =
        near_0 (model_of c) (2 * width (tree n)) (near_of near p 0).load (near_of near p 0).more ((near_of near p 0).over - 1) N r.load (acc (model_of c) (tree n) p)
        (near_branch (model_of c) n p 0 (kind n 0) (near_of near p 0) sound.source some (cl.is 0 p (omega arith) sound.some r.few)) under_source

    live : Alive (acc (model_of c) (tree n) p)
    live = go (acc (model_of c) (tree n) p) budget
      where
        go : (y : Acc) → Budgeted y ((near_of near p 0).over - 1) N r.load → Alive y
        go fail b = b
        go (all m g) b = tt

    none_yet : (j : ℕ) → part_at (replicate most_places 0) j ≡ 0
    none_yet j = get_or-zeros most_places j

    pub asks_source : Asks (model_of c) links slots (replicate most_places 0) p (head_at links 0) (tree n)
    asks_source =
        asks_under (model_of c) ok.eq ok.pos ok.small sound w r.few (replicate most_places 0) 0 (omega arith) sound.some first (length-replicate {A = ℕ} most_places 0) live (λ j q. none_yet j)

    sense : sense_at (set (replicate most_places 0) 0 p) 0 ≡ p
    sense = get_or-set_same (replicate most_places 0) 0 p 0 (omega (arith, length-replicate {A = ℕ} most_places 0))

    begun_with : (ws os parts : List ℕ) → length parts ≡ most_places → Dealt (model_of c) (part_at parts) p ((near_of near p 0).over - 1) (tree n) → ((j : ℕ) → 1 ≤ parent n j → part_at parts j ≡ 0) → N ≤ room_in ws os
        → Begun (model_of c) n (set (replicate most_places 0) 0 p) parts N ws os
    begun_with ws os parts long dealt fresh room = record {
      senses_long = simp length-set (length-replicate {A = ℕ} most_places 0);
      parts_long = long;
      sense = rw sense r.few;
      left = (near_of near p 0).over - 1;
      load = r.load;
      more = r.more;
      is = rw sense r.is;
      budget = rw sense budget;
      dealt = rw sense dealt;
      fresh = fresh;
      in_wires = omega arith;
      in_offsets = omega arith;
    }

    dealt_none : (near_of near p 0).over - 1 ≡ 0 → Dealt (model_of c) (part_at (replicate most_places 0)) p ((near_of near p 0).over - 1) (tree n)
    dealt_none q = rw q (dealt_0 (model_of c) (part_at (replicate most_places 0)) p (tree n) live (hanging_each sound 0 (λ j. part_at (replicate most_places 0) j ≡ 0) (λ j g u. none_yet j) 1))

    pub begun : (ws os parts : List ℕ) (e : ℕ) → e ≡ (near_of near p 0).over - 1 → Handed (model_of c) links slots (replicate most_places 0) p 0 e parts → N ≤ room_in ws os → Begun (model_of c) n (set (replicate most_places 0) 0 p) parts N ws os
    begun ws os parts e q y room = elim (ℕ_discrete e 0) [
      | yes x ↦ rw (y.none x) (begun_with ws os (replicate most_places 0) (length-replicate {A = ℕ} most_places 0) (dealt_none (sym q ∙ x)) (λ j l. none_yet j) room)
      | no ne ↦
          let o : Out (model_of c) (replicate most_places 0) parts p e (tree n) = y.dealt ne (tree n) asks_source in
          begun_with ws os parts o.long (subst (λ (e : ℕ). Dealt (model_of c) (part_at parts) p e (tree n)) q o.dealt) (λ j l. o.kept j (not_ours sound 0 j (λ q. omega arith)) ∙ none_yet j) room
    ]

-- ---- what it comes to
module _ {c : Cell} (ok : CellOk c) {n : Net} (sound : SoundNet n) (same : limits_of c ≡ n.limits) where
  cell_is : model_of c ≡ model.cell_of n.limits
  cell_is = model_is ok ∙ ap model.cell_of same

  root_here : {s : State} → frontier.root (model_of c) (tree n) ≡ s → frontier.root (model.cell_of n.limits) (tree n) ≡ s
  root_here {s} e = subst (λ (τ : model.Cell). frontier.root τ (tree n) ≡ s) cell_is e

  pub none_there : frontier.root (model_of c) (tree n) ≡ lost → NoneLegal n
  none_there e = none_if_lost sound (root_here e)

  pub least_there : (k a b : ℕ) → frontier.root (model_of c) (tree n) ≡ has k a b → Least n k
  least_there k a b e = least_if_has sound k a b (root_here e)

  pub written_least : {p N : ℕ} {senses ws os ws' os' : List ℕ} → Rooted (model_of c) n p N → (x : Written (model_of c) n senses N ws os ws' os') → Legal n (placed n x.offs) × (length (placed n x.offs) ≡ N)
  written_least {p} {N} {senses} r x =
      placed_is_least sound N r.a r.b (root_here r.root) (sense_at senses 0) x.offs (subst (λ (τ : model.Cell). Settled τ (sense_at senses 0) (tree n) (plan_of x.offs (tree n))) cell_is x.settled) x.few

  -- a legal placement of as many entries as the root counts is least, and has room where that count has
  pub least_placed : {p N room : ℕ} {l : List Entry} → Rooted (model_of c) n p N → Legal n l × (length l ≡ N) → N ≤ room → Least n (length l) × (length l ≤ room)
  least_placed {p} {N} {room} {l} r x h = let q : N ≡ length l = sym x.1 in (subst (Least n) q (least_there N r.a r.b r.root), omega arith)
