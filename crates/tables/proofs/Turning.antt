-- One turn of the way up: what it asks of each call follows from the tables so far.
use Prim.Native.Nat.{ℕ, zero, suc, ◌+◌, ◌-◌, ◌*◌, ◌≤◌, ◌<◌, max}
use mathlib.Core.Path.{◌≡◌, sym, subst, ap, ◌∙◌}
use mathlib.Core.List.{List}
use native.Mathlib.Omega.{arith}
use lib.ListN.{set}
use Rattle.rules.specs.Figures.{most_places}
use Rattle.rules.specs.Net.{Net, places, parent, kind, pin, polarity}
use Rattle.rules.specs.Tree.{hanging, under}
use Rattle.rules.specs.Sound.{SoundNet}
use Rattle.frontier.specs.Cell as model
use Rattle.frontier.specs.Frontier.{State, acc}
use Rattle.states.specs.declared.Cell.{Cell}
use Rattle.states.specs.States.{model_of, CellOk, SmallS, Falls, wire_of}
use Rattle.states.proofs.Leaves.{small_up}
use Rattle.states.proofs.Short.{tidy_falls}
use Rattle.surplus.specs.declared.Slot.{Slot}
use Rattle.surplus.specs.declared.Closed.{Closed}
use Rattle.surplus.specs.Wires.{node_at, lift_of}
use Rattle.surplus.specs.Links.{First}
use Rattle.surplus.specs.Tables.{head_at, side, near_of, state_of, count_at, Small, SlotSmall, Hung, NodeNear, WiresJoined, NodesClosed}
use Rattle.surplus.specs.Asks.{AsksClose}
use Rattle.surplus.proofs.Bounds.{acc_small, node_small, lift_small}
use Rattle.surplus.proofs.Hanging.{slot_small, count_small}
use Rattle.surplus.proofs.Cutting.{lift_is}
use Rattle.surplus.proofs.Meeting.{slot_at, asks_close}
use Rattle.surplus.proofs.Filling.{own_first, closed_at, joined_more, node_tidy, node_is}
use Rattle.tables.specs.Turns.{SideIs, Hangs}

-- ---- a node's state, by its kind
side_near : (τ : model.Cell) (n : Net) (i q k : ℕ) (r : Closed) → SideIs τ k (pin n i) (polarity n i) q (under n i) r → NodeNear τ n q i k r
side_near τ n i q zero r h = h
side_near τ n i q (suc k) r h = h

module _ {c : Cell} (ok : CellOk c) {n : Net} (sound : SoundNet n) {links : List ℕ} {slots : List Slot} {i k : ℕ} (w : WiresJoined (model_of c) n links slots (suc i)) (h : i < places n) (e : k ≡ head_at links i) where
  first : First n (suc i) i k
  first = rw e (own_first (model_of c) sound w (omega arith) h)

  pub slot_low : k < most_places
  slot_low = omega (arith, first.low, sound.few)

  pub closes : (p : ℕ) → p ≤ 1 → AsksClose (model_of c) links slots p k (under n i)
  closes p lp = asks_close (model_of c) ok.eq ok.pos ok.small sound w lp (suc i) i k (omega arith) (omega arith) h first

  -- both polarities are noted
  pub noted : {near : List Closed} (j : ℕ) → NodesClosed (model_of c) n near (suc i) → (x y : Closed) → SideIs (model_of c) (kind n i) (pin n i) (polarity n i) 0 (under n i) x
      → SideIs (model_of c) (kind n i) (pin n i) (polarity n i) 1 (under n i) y → j ≡ i * 2 + 0
      → NodesClosed (model_of c) n (set (set near j x) (i * 2 + 1) y) i
  noted j o x y a b q = closed_at (model_of c) (omega (arith, sound.few)) o _ _ (side_near (model_of c) n i 0 (kind n i) x a) (side_near (model_of c) n i 1 (kind n i) y b) j q

-- ---- a wire hung
module _ {c : Cell} (ok : CellOk c) {n : Net} {w : ℕ} {links : List ℕ} {slots : List Slot} {near : List Closed} {v i : ℕ} (g : Hangs (model_of c) n w links slots near v i) where
  pub lower : v < i
  lower = rw g.parent (g.sound.lower i g.lo g.here)

  pub in_places : i < most_places
  in_places = omega (arith, g.here, g.sound.few)

  -- its node
  module _ {h : ℕ} (e : h ≡ head_at links i) where
    pub node_low : h < most_places
    node_low = slot_low ok g.sound g.joined g.here e

    pub node_count : (p : ℕ) → p ≤ 1 → count_at slots p h ≤ 100000000001
    node_count p lp =
        count_small slots p h (acc (model_of c) (under n i) p) (closes ok g.sound g.joined g.here e p lp).slot
        (acc_small (model_of c) ok.eq ok.pos ok.small g.sound (places n - suc i) i p (omega (arith, g.here)) lp)

    node_state : (p : ℕ) → p ≤ 1 → node_at (model_of c) n i p ≡ state_of (count_at slots p h) (near_of near p i)
    node_state p lp = rw e (node_is (model_of c) g.sound g.joined (omega arith) g.here near lp (g.closed p lp))

    module _ {p : ℕ} (lp : p ≤ 1) {s : State} (q : s ≡ state_of (count_at slots p h) (near_of near p i)) where
      pub is_node : s ≡ node_at (model_of c) n i p
      is_node = q ∙ sym (node_state p lp)

      pub is_small : SmallS 500000000000 s
      is_small = rw is_node (node_small (model_of c) ok.eq ok.pos ok.small g.sound i p g.here lp)

      pub is_falling : Falls s
      is_falling = rw is_node (tidy_falls (model_of c) (node_at (model_of c) n i p) (node_tidy (model_of c) ok.eq ok.pos n i p))

  -- the wires after it under its parent
  module _ {k : ℕ} (e : k ≡ head_at links v) where
    after : First n (suc i) v k
    after =
        let l : parent n i < i = g.sound.lower i g.lo g.here in
        let m : max (suc i) (suc (parent n i)) ≡ suc i = omega arith in
        rw (e, g.parent) (subst (λ (z : ℕ). First n z (parent n i) (head_at links (parent n i))) m (g.joined.linked.heads (parent n i) (omega (arith, g.here))))

    pub after_small : (p : ℕ) → p ≤ 1 → SlotSmall slots p k
    after_small p lp =
        slot_small slots p k (acc (model_of c) (hanging n (places n - suc i) v) p) (slot_at (model_of c) g.joined lp (suc i) v k (omega arith) after)
        (acc_small (model_of c) ok.eq ok.pos ok.small g.sound (places n - suc i) v p (omega (arith, g.here, lower)) lp)

    not_own : k ≡ i → ⊥
    not_own q = omega (arith, after.from (omega (arith, g.lo)), g.lo)

    -- they are as they were once it hangs at plus
    pub still_small : {x : State} {slots₁ : List Slot} → Hung 0 k i x slots slots₁ → SlotSmall slots₁ 1 k
    still_small a = subst Small (sym (a.slots_kept (side 1 k) (λ q. omega arith))) (after_small 1 (omega arith))

  -- what it is worth
  module _ {s t : State} (es : s ≡ node_at (model_of c) n i 0) (et : t ≡ node_at (model_of c) n i 1) {x y : State} (ex : x ≡ wire_of (model_of c) model.inv w s t) (ey : y ≡ wire_of (model_of c) model.inv w t s) where
    pub worth_plus : x ≡ lift_of (model_of c) n i 0
    worth_plus = ex ∙ rw (g.size, es, et) (sym (lift_is (model_of c) n i 0 g.kind (omega arith)))

    pub worth_minus : y ≡ lift_of (model_of c) n i 1
    worth_minus = ey ∙ rw (g.size, es, et) (sym (lift_is (model_of c) n i 1 g.kind (omega arith)))

    pub plus_small : SmallS 1000000000000 x
    plus_small = rw worth_plus (small_up 100000000000 1000000000000 (lift_of (model_of c) n i 0) (omega arith) (lift_small (model_of c) ok.eq ok.pos ok.small g.sound i 0 g.here (omega arith)))

    pub minus_small : SmallS 1000000000000 y
    minus_small = rw worth_minus (small_up 100000000000 1000000000000 (lift_of (model_of c) n i 1) (omega arith) (lift_small (model_of c) ok.eq ok.pos ok.small g.sound i 1 g.here (omega arith)))

    pub hung_both : (k : ℕ) {slots₁ slots₂ : List Slot} {links' : List ℕ} → k ≡ head_at links v → Hung 0 k i x slots slots₁ → Hung 1 k i y slots₁ slots₂
        → links' ≡ set (set links (i * 2) (head_at links v)) (v * 2 + 1) i → WiresJoined (model_of c) n links' slots₂ i
    hung_both k {slots₁} {slots₂} {links'} e a b el =
        let q : k ≡ head_at links (parent n i) = e ∙ ap (head_at links) g.parent in
        joined_more (model_of c) g.sound g.lo g.here g.joined worth_plus worth_minus (subst (λ (k : ℕ). Hung 0 k i x slots slots₁) q a) (subst (λ (k : ℕ). Hung 1 k i y slots₁ slots₂) q b)
        (subst (λ (v : ℕ). links' ≡ set (set links (i * 2) (head_at links v)) (v * 2 + 1) i) g.parent el)
