-- What the walk settles of a wire, out of the tables and of the tries of crate `cuts`.
use Prim.Native.Nat.{ℕ, suc, ◌+◌, ◌-◌, ◌≤◌, ◌<◌}
use mathlib.Core.Path.{◌≡◌, refl, sym, subst, ap, ◌∙◌}
use mathlib.Core.List.{List}
use native.Mathlib.Omega.{arith}
use Rattle.rules.specs.Figures.{most_places}
use Rattle.rules.specs.Net.{Net, places, wire, kind}
use Rattle.rules.specs.Tree.{under}
use Rattle.frontier.specs.Cell as model
use Rattle.frontier.specs.Frontier.{State, lost, has, acc}
use Rattle.frontier.specs.Spaced.{steps}
use Rattle.frontier.proofs.Lower.{Tidy}
use Rattle.states.specs.declared.Cell.{Cell}
use Rattle.states.specs.States.{model_of, CellOk, SmallS}
use Rattle.surplus.specs.declared.Slot.{Slot}
use Rattle.surplus.specs.declared.Closed.{Closed}
use Rattle.surplus.specs.Wires.{node_at}
use Rattle.surplus.specs.Choice.{Under, Met, Meets, Aim, Owes, offsets}
use Rattle.surplus.specs.Tables.{next_at, head_at, near_of, state_of, lo_at, hi_at, count_at}
use Rattle.surplus.specs.Descent.{Stays, Cutting, Targeted, Decided}
use Rattle.surplus.proofs.Bounds.{acc_small, node_small, lift_small}
use Rattle.surplus.proofs.Hanging.{count_small}
use Rattle.surplus.proofs.Meeting.{slot_at}
use Rattle.surplus.proofs.Filling.{own_first, node_is}
use Rattle.surplus.proofs.Aiming.{turn_same, turn_other, aim_0}
use Rattle.surplus.proofs.Cutting.{lift_is, part_met, met_alive, cut_good}
use Rattle.surplus.proofs.Short.{wire_tidy, short_met}
use Rattle.surplus.proofs.Deciding.{count_is, loads_are, over_some, near_branch, sink_owes}

-- ---- over its node's two states
module _ {c : Cell} (ok : CellOk c) {n : Net} {w : ℕ} {slots : List Slot} {near : List Closed} {p s h i m l k : ℕ} (t : Targeted (model_of c) n w slots near p s h i m l k) where
  pub in_places : i < most_places
  in_places = omega (arith, t.here, t.sound.few)

  module _ {q : ℕ} (lq : q ≤ 1) {x : State} (e : x ≡ state_of (count_at slots q h) (near_of near q i)) where
    pub is_node : x ≡ node_at (model_of c) n i q
    is_node = e ∙ sym (t.node q lq)

    pub is_small : SmallS 500000000000 x
    is_small = rw is_node (node_small (model_of c) ok.eq ok.pos ok.small t.sound i q t.here lq)

  pub can_meet : {x y : State} → x ≡ node_at (model_of c) n i p → y ≡ node_at (model_of c) n i (1 - p) → Meets (model_of c) w x y m l
  can_meet ex ey = rw (ex, ey, t.size) (part_met (model_of c) n p i s m l k t.parts t.kind t.low t.aim)

  module _ {q : ℕ} (lq : q ≤ 1) where
    -- where a state of the node is taken, it was kept with a surplus
    pub some : (x' : State) (x g f : ℕ) → x' ≡ node_at (model_of c) n i q → Under x' x g f → 1 ≤ (near_of near q i).over
    some x' x g f ex u = over_some (count_at slots q h) (near_of near q i) x g f (subst (λ (y : State). Under y x g f) (ex ∙ t.node q lq) u)

    decided_at : (π x f r e : ℕ) → model.turn (model_of c).kind p (r + k) ≡ q → Met (model_of c) π (wire n i) (node_at (model_of c) n i q) m l x f r
        → Owes x (near_of near q i).load (near_of near q i).more ((near_of near q i).over - 1) e → Decided (model_of c) n p s i t.parts q e f r k
    decided_at π x f r e turns o w =
        let y : 1 ≤ (near_of near q i).over = some (node_at (model_of c) n i q) x o.n f refl o.under in
        record {
          sense = lq;
          live = λ z. met_alive (model_of c) n i q x o.n f (kind n i) z o.under;
          sink = λ z. sink_owes (model_of c) n q i (kind n i) (near_of near q i) x e z y (t.kept q lq) w;
          below = o.n;
          load = f;
          ok = cut_good (model_of c) ok.eq ok.pos t.parts q e m l k π x f r (near_of near q i).load (near_of near q i).more ((near_of near q i).over - 1) t.aim turns o
              (λ z. near_branch (model_of c) n q i (kind n i) (near_of near q i) z y (t.kept q lq)) w;
        }

  kind_is : (r : ℕ) → model.turn (model_of c).kind p r ≡ model.turn model.inv p r
  kind_is r = ap (λ (κ : model.Kind). model.turn κ p r) t.kind

  pub decided_same : {y : State} (x f r e : ℕ) → y ≡ node_at (model_of c) n i p → Met (model_of c) 0 w y m l x f r → Owes x (near_of near p i).load (near_of near p i).more ((near_of near p i).over - 1) e
      → Decided (model_of c) n p s i t.parts p e f r k
  decided_same {y} x f r e ey o w =
      let o' = subst (λ (z : State). Met (model_of c) 0 (wire n i) z m l x f r) ey (subst (λ (v : ℕ). Met (model_of c) 0 v y m l x f r) t.size o) in
      decided_at t.low 0 x f r e (kind_is (r + k) ∙ turn_same (model_of c) p (wire n i) f r k t.low o'.is t.aim.turns) o' w

  pub decided_other : {y : State} (x f r e : ℕ) → y ≡ node_at (model_of c) n i (1 - p) → Met (model_of c) 1 w y m l x f r → Owes x (near_of near (1 - p) i).load (near_of near (1 - p) i).more ((near_of near (1 - p) i).over - 1) e
      → Decided (model_of c) n p s i t.parts (1 - p) e f r k
  decided_other {y} x f r e ey o w =
      let o' = subst (λ (z : State). Met (model_of c) 1 (wire n i) z m l x f r) ey (subst (λ (v : ℕ). Met (model_of c) 1 v y m l x f r) t.size o) in
      decided_at (omega arith) 1 x f r e (kind_is (r + k) ∙ turn_other (model_of c) p (wire n i) f r k t.low o'.is t.aim.turns) o' w

-- where no inverter stands, no load matters
bare : (τ : model.Cell) (w f f' : ℕ) → offsets τ w f 0 0 ≡ offsets τ w f' 0 0
unfolding steps
bare τ w f f' = refl

-- ---- out of the tables
module _ {c : Cell} (ok : CellOk c) {n : Net} {w : ℕ} {links : List ℕ} {slots : List Slot} {near : List Closed} {p s i : ℕ} (t : Cutting (model_of c) n w links slots near p s i) where
  pub wire_low : i < most_places
  wire_low = omega (arith, t.here, t.sound.few)

  pub head_low : head_at links i < most_places
  head_low = omega (arith, (own_first (model_of c) t.sound t.joined (omega arith) t.here).low, t.sound.few)

  pub counts : (count_at slots p (next_at links i) ≤ count_at slots p i) × (count_at slots p i - count_at slots p (next_at links i) ≡ t.parts.m)
  counts = count_is (model_of c) t.sound t.joined t.lo t.here t.low t.parts

  pub loads : (lo_at slots p i ≡ t.parts.a) × (hi_at slots p i ≡ t.parts.b)
  loads = loads_are (model_of c) t.sound t.joined t.lo t.here t.low t.parts

  lifted_small : SmallS 100000000000 (has t.parts.m t.parts.a t.parts.b)
  lifted_small = subst (SmallS 100000000000) t.parts.lifted (lift_small (model_of c) ok.eq ok.pos ok.small t.sound i p t.here t.low)

  pub count_few : t.parts.m ≤ 100000000000
  count_few = lifted_small.0

  pub head_count : (q : ℕ) → q ≤ 1 → count_at slots q (head_at links i) ≤ 100000000001
  head_count q lq =
      count_small slots q (head_at links i) (acc (model_of c) (under n i) q) (slot_at (model_of c) t.joined lq (suc i) i (head_at links i) (omega arith) (own_first (model_of c) t.sound t.joined (omega arith) t.here))
      (acc_small (model_of c) ok.eq ok.pos ok.small t.sound (places n - suc i) i q (omega (arith, t.here)) lq)

  unfoldable pub targeted : {h m l k : ℕ} → h ≡ head_at links i → Aim (model_of c) s t.parts.m t.parts.a t.parts.b m l k → Targeted (model_of c) n w slots near p s h i m l k
  targeted {h} e a = record {
    kind = t.kind;
    sound = t.sound;
    here = t.here;
    size = t.size;
    low = t.low;
    slot = rw e head_low;
    parts = t.parts;
    aim = a;
    counts = λ q lq. rw e (head_count q lq);
    node = λ q lq. rw e (node_is (model_of c) t.sound t.joined (omega arith) t.here near lq (t.closed.is i q (omega arith) t.here lq));
    kept = λ q lq. t.closed.is i q (omega arith) t.here lq;
  }

  pub aims : {m a b m' l k : ℕ} → m ≡ t.parts.m → a ≡ t.parts.a → b ≡ t.parts.b → Aim (model_of c) s m a b m' l k → Aim (model_of c) s t.parts.m t.parts.a t.parts.b m' l k
  aims {m} {a} {b} {m'} {l} {k} em ea eb x =
      subst (λ (b : ℕ). Aim (model_of c) s t.parts.m t.parts.a b m' l k) eb (subst (λ (a : ℕ). Aim (model_of c) s t.parts.m a b m' l k) ea (subst (λ (m : ℕ). Aim (model_of c) s m a b m' l k) em x))

  pub own_small : {h : ℕ} {x : State} → h ≡ head_at links i → x ≡ state_of (count_at slots p h) (near_of near p i) → SmallS 500000000000 x
  own_small {h} e ex =
      rw (ex ∙ ap (λ (k : ℕ). state_of (count_at slots p k) (near_of near p i)) e ∙ sym (node_is (model_of c) t.sound t.joined (omega arith) t.here near t.low (t.closed.is i p (omega arith) t.here t.low)))
      (node_small (model_of c) ok.eq ok.pos ok.small t.sound i p t.here t.low)

  -- it takes no surplus and no inverter
  module _ {h m l : ℕ} (e : h ≡ head_at links i) (em : m ≡ t.parts.m) (el : l ≡ t.parts.a) (z : s ≡ 0) {x : State} (ex : x ≡ state_of (count_at slots p h) (near_of near p i)) (y : Stays x w m l) where
    own : Targeted (model_of c) n w slots near p s h i t.parts.m t.parts.a 0
    own = targeted e (aim_0 (model_of c) t.parts.m t.parts.a t.parts.b s z)

    fits : t.parts.a ≤ c.limit
    fits = (subst (Tidy (model_of c)) (sym (lift_is (model_of c) n i p t.kind t.low) ∙ t.parts.lifted) (wire_tidy (model_of c) ok.eq ok.pos (wire n i) (node_at (model_of c) n i p) (node_at (model_of c) n i (1 - p)))).0

    met : (x' : State) → x ≡ x' → Stays x' w m l → (f : ℕ) × Met (model_of c) 0 w x t.parts.m t.parts.a 0 f 0
    met lost q u = absurd u
    met (has n' f g) q u = (f, short_met (model_of c) ok.eq ok.pos w n' f g t.parts.m t.parts.a x q fits (omega (arith, u.0)) (omega (arith, u.1)))

    there : (f : ℕ) × Met (model_of c) 0 w x t.parts.m t.parts.a 0 f 0
    there = met x refl y

    pub decided_bare : (r : ℕ) → Owes 0 (near_of near p i).load (near_of near p i).more ((near_of near p i).over - 1) r → Decided (model_of c) n p s i t.parts p r 0 0 0
    unfolding own targeted
    decided_bare r u =
        let d = decided_same ok own 0 there.0 0 r (is_node ok own t.low ex) there.1 u in
        record { sense = d.sense; live = d.live; sink = d.sink; below = d.below; load = d.load; ok = λ a eo. d.ok a (eo ∙ bare (model_of c) (wire n i) 0 there.0) }
