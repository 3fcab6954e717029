-- The way up, wire by wire: what the tables hold with nothing joined, and with one wire and one node more.
use Prim.Native.Nat.{ℕ, zero, suc, ◌+◌, ◌-◌, ◌*◌, ◌≤◌, ◌<◌, max}
use mathlib.Core.Path.{◌≡◌, refl, sym, subst, ap, ◌∙◌}
use mathlib.Core.List.{List}
use native.Mathlib.Omega.{arith}
use native.Mathlib.Decide.{ℕ_discrete}
use lib.ListN.{length, get_or, set, length-set}
use lib.Seq.{get_or-set_same, get_or-set_other}
use Rattle.rules.specs.Figures.{most_places}
use Rattle.rules.specs.Net.{Net, places, parent, kind, pin, polarity}
use Rattle.rules.specs.Tree.{hanging, under}
use Rattle.rules.specs.Sound.{SoundNet}
use Rattle.frontier.specs.Cell.{Cell}
use Rattle.frontier.specs.Frontier.{State, Acc, acc, join, width}
use Rattle.frontier.proofs.Lower.{Tidy, close_tidy, leaf_tidy}
use Rattle.surplus.specs.Wires.{side_of, node_at, lift_of}
use Rattle.surplus.specs.declared.Slot.{Slot}
use Rattle.surplus.specs.declared.Closed.{Closed}
use Rattle.surplus.specs.Pairs.{Kept}
use Rattle.surplus.specs.Links.{First, Links}
use Rattle.surplus.specs.Tables.{next_at, head_at, side, slot_of, not_closed, near_of, state_of, lo_at, hi_at, zero_at, one_at, count_at, SlotIs, Loads, Hung, NodeNear, NearIs, WiresJoined, NodesClosed}
use Rattle.surplus.proofs.Trees.{acc_more}
use Rattle.surplus.proofs.Pairs.{near_state_lem}
use Rattle.surplus.proofs.Linking.{links_start, links_more}
use Rattle.surplus.proofs.Hanging.{slot_same}
use Rattle.surplus.proofs.Meeting.{slot_at}

-- ---- one wire more
module _ (τ : Cell) {n : Net} (sound : SoundNet n) {i : ℕ} (lo : 1 ≤ i) (h : i < places n) {links links' : List ℕ} {slots slots₁ slots₂ : List Slot}
    (w : WiresJoined τ n links slots (suc i)) {x y : State} (ex : x ≡ lift_of τ n i 0) (ey : y ≡ lift_of τ n i 1)
    (a : Hung 0 (head_at links (parent n i)) i x slots slots₁) (b : Hung 1 (head_at links (parent n i)) i y slots₁ slots₂)
    (el : links' ≡ set (set links (i * 2) (head_at links (parent n i))) (parent n i * 2 + 1) i) where
  lower : parent n i < i
  lower = sound.lower i lo h

  -- ---- the links
  at_links : (k : ℕ) → get_or links' k 0 ≡ get_or (set (set links (i * 2) (head_at links (parent n i))) (parent n i * 2 + 1) i) k 0
  at_links k = ap (λ (l : List ℕ). get_or l k 0) el

  linked : Links n (next_at links') (head_at links') i
  linked =
      let v : ℕ = parent n i in
      let k : ℕ = head_at links (parent n i) in
      links_more sound lo h w.linked
      (at_links (i * 2) ∙ get_or-set_other (set links (i * 2) k) (v * 2 + 1) (i * 2) i 0 (λ q. omega arith) ∙ get_or-set_same links (i * 2) k 0 (omega (arith, w.links_long, sound.few)))
      (λ j ne. at_links (j * 2) ∙ get_or-set_other (set links (i * 2) k) (v * 2 + 1) (j * 2) i 0 (λ q. omega arith) ∙ get_or-set_other links (i * 2) (j * 2) k 0 (λ q. ne (omega arith)))
      (at_links (v * 2 + 1) ∙ get_or-set_same (set links (i * 2) k) (v * 2 + 1) i 0 (simp length-set (omega (arith, w.links_long, sound.few, lower))))
      (λ u ne. at_links (u * 2 + 1) ∙ get_or-set_other (set links (i * 2) k) (v * 2 + 1) (u * 2 + 1) i 0 (λ q. ne (omega arith)) ∙ get_or-set_other links (i * 2) (u * 2 + 1) k 0 (λ q. omega arith))

  -- ---- the slots of the other wires, and of none
  slots_other : (p j : ℕ) → p ≤ 1 → (j ≡ i → ⊥) → slot_of slots₂ p j ≡ slot_of slots p j
  slots_other p j l ne = b.slots_kept (side p j) (λ q. ne (omega arith)) ∙ a.slots_kept (side p j) (λ q. ne (omega arith))

  -- ---- its own
  first : First n (suc i) (parent n i) (head_at links (parent n i))
  first = let m : max (suc i) (suc (parent n i)) ≡ suc i = omega (arith, lower) in subst (λ (z : ℕ). First n z (parent n i) (head_at links (parent n i))) m (w.linked.heads (parent n i) (omega (arith, lower)))

  after : (p : ℕ) → p ≤ 1 → SlotIs slots p (head_at links (parent n i)) (acc τ (hanging n (places n - suc i) (parent n i)) p)
  after p l = slot_at τ w l (suc i) (parent n i) (head_at links (parent n i)) (omega arith) first

  not_own : head_at links (parent n i) ≡ i → ⊥
  not_own q = omega (arith, first.from (omega arith))

  own : (p : ℕ) → p ≤ 1 → SlotIs slots₂ p i (acc τ (hanging n (places n - i) (parent n i)) p)
  own zero l =
      let r : Acc = acc τ (hanging n (places n - suc i) (parent n i)) 0 in
      let e : join τ x r ≡ acc τ (hanging n (places n - i) (parent n i)) 0 = ap (λ (s : State). join τ s r) ex ∙ acc_more τ sound i 0 h in
      subst (SlotIs slots₂ 0 i) e (slot_same slots₁ slots₂ 0 i (join τ x r) (b.slots_kept (side 0 i) (λ q. omega arith)) (a.slot τ r (after 0 l)))
  own (suc zero) l =
      let k : ℕ = head_at links (parent n i) in
      let r : Acc = acc τ (hanging n (places n - suc i) (parent n i)) 1 in
      let e : join τ y r ≡ acc τ (hanging n (places n - i) (parent n i)) 1 = ap (λ (s : State). join τ s r) ey ∙ acc_more τ sound i 1 h in
      subst (SlotIs slots₂ 1 i) e (b.slot τ r (slot_same slots slots₁ 1 k r (a.slots_kept (side 1 k) (λ q. omega arith)) (after 1 l)))
  own (suc (suc p)) l = absurd (omega arith)

  own_kept : (p : ℕ) → p ≤ 1 → Kept (lift_of τ n i p) (lo_at slots₂ p i) (hi_at slots₂ p i)
  own_kept zero l = subst (Loads (lift_of τ n i 0)) (sym (b.slots_kept (side 0 i) (λ q. omega arith))) (subst (λ (s : State). Kept s (lo_at slots₁ 0 i) (hi_at slots₁ 0 i)) ex a.kept)
  own_kept (suc zero) l = subst (λ (s : State). Kept s (lo_at slots₂ 1 i) (hi_at slots₂ 1 i)) ey b.kept
  own_kept (suc (suc p)) l = absurd (omega arith)

  pub joined_more : WiresJoined τ n links' slots₂ i
  joined_more = record {
    links_long = ap length el ∙ simp length-set w.links_long;
    slots_long = b.slots_long ∙ a.slots_long ∙ w.slots_long;
    linked = linked;
    end = λ p l. let z : 0 ≡ i → ⊥ = λ q. omega arith in subst (λ (x : Slot). (x.count ≡ 1) × (x.all_load ≡ 0) × (x.all_more ≡ 0)) (sym (slots_other p 0 l z)) (w.end p l);
    slot = λ j p l o g lp. elim (ℕ_discrete j i) [
      | yes q ↦ rw q (own p lp)
      | no ne ↦ slot_same slots slots₂ p j (acc τ (hanging n (places n - j) (parent n j)) p) (slots_other p j lp ne) (w.slot j p (omega arith) o g lp)
    ];
    kept = λ j p l o g lp. elim (ℕ_discrete j i) [ yes q ↦ rw q (own_kept p lp) | no ne ↦ subst (Loads (lift_of τ n j p)) (sym (slots_other p j lp ne)) (w.kept j p (omega arith) o g lp) ];
  }

-- ---- one node more
module _ (τ : Cell) {n : Net} {i : ℕ} (few : i < most_places) {near : List Closed} (w : NodesClosed τ n near (suc i)) (a b : Closed)
    (plus : NodeNear τ n 0 i (kind n i) a) (minus : NodeNear τ n 1 i (kind n i) b) where
  near' : List Closed
  near' = set (set near (i * 2 + 0) a) (i * 2 + 1) b

  own_near : (p : ℕ) → p ≤ 1 → NearIs τ n near' p i
  unfolding near'
  own_near zero l =
      rw (get_or-set_other (set near (i * 2 + 0) a) (i * 2 + 1) (i * 2 + 0) b not_closed (λ q. omega arith), get_or-set_same near (i * 2 + 0) a not_closed (omega (arith, w.near_long))) plus
  own_near (suc zero) l = rw (get_or-set_same (set near (i * 2 + 0) a) (i * 2 + 1) b not_closed (simp length-set (omega (arith, w.near_long)))) minus
  own_near (suc (suc p)) l = absurd (omega arith)

  other_near : (p j : ℕ) → p ≤ 1 → (j ≡ i → ⊥) → near_of near' p j ≡ near_of near p j
  unfolding near'
  other_near p j l ne =
      get_or-set_other (set near (i * 2 + 0) a) (i * 2 + 1) (side p j) b not_closed (λ q. ne (omega arith)) ∙ get_or-set_other near (i * 2 + 0) (side p j) a not_closed (λ q. ne (omega arith))

  closed_more : NodesClosed τ n (set (set near (i * 2 + 0) a) (i * 2 + 1) b) i
  unfolding near'
  closed_more = record {
    near_long = simp length-set w.near_long;
    is = λ j p l h lp. elim (ℕ_discrete j i) [ yes q ↦ rw q (own_near p lp) | no ne ↦ rw (other_near p j lp ne) (w.is j p (omega arith) h lp) ];
  }

  pub closed_at : (k : ℕ) → k ≡ i * 2 + 0 → NodesClosed τ n (set (set near k a) (i * 2 + 1) b) i
  closed_at k e = rw e closed_more

-- ---- what is kept of a node is its state
pub node_tidy : (τ : Cell) → τ.cu ≡ τ.cb + τ.D → 1 ≤ τ.D → (n : Net) (i q : ℕ) → Tidy τ (node_at τ n i q)
node_tidy τ eq pos n i q = go (kind n i)
  where
    go : (κ : ℕ) → Tidy τ (side_of τ κ (pin n i) (polarity n i) (2 * width (under n i)) (acc τ (under n i) q) q)
    go zero = close_tidy τ eq pos (2 * width (under n i)) (acc τ (under n i) q)
    go (suc κ) = leaf_tidy τ eq pos (pin n i) (polarity n i) q

module _ (τ : Cell) {n : Net} (sound : SoundNet n) {links : List ℕ} {slots : List Slot} {i₀ i : ℕ} (w : WiresJoined τ n links slots i₀) (le : i₀ ≤ suc i) (h : i < places n) where
  pub own_first : First n (suc i) i (head_at links i)
  own_first = let m : max i₀ (suc i) ≡ suc i = omega arith in subst (λ (z : ℕ). First n z i (head_at links i)) m (w.linked.heads i h)

  -- a sink has no wire
  sink_head : (kind n i ≡ 0 → ⊥) → head_at links i ≡ 0
  sink_head ne = elim (ℕ_discrete (head_at links i) 0) [
    | yes q ↦ q
    | no nz ↦ absurd (ne (subst (λ (v : ℕ). kind n v ≡ 0) (own_first.ours (omega arith)) (sound.no_sink (head_at links i) (omega arith) own_first.low)))
  ]

  pub node_is : (near : List Closed) {p : ℕ} → p ≤ 1 → NearIs τ n near p i → node_at τ n i p ≡ state_of (count_at slots p (head_at links i)) (near_of near p i)
  node_is near {p} lp nr = go (kind n i) refl nr
    where
      go : (κ : ℕ) → kind n i ≡ κ → NodeNear τ n p i κ (near_of near p i)
          → side_of τ κ (pin n i) (polarity n i) (2 * width (under n i)) (acc τ (under n i) p) p ≡ state_of (count_at slots p (head_at links i)) (near_of near p i)
      go zero e k = near_state_lem τ (2 * width (under n i)) _ _ _ (near_of near p i).load (near_of near p i).more (near_of near p i).over (acc τ (under n i) p) (slot_at τ w lp (suc i) i (head_at links i) le own_first) k
      go (suc κ) e k =
          let z : count_at slots p (head_at links i) ≡ 1 = rw (sink_head (λ q. omega arith)) (w.end p lp).0 in
          rw z k

-- ---- nothing yet
pub joined_none : (τ : Cell) {n : Net} → SoundNet n → (links : List ℕ) (slots : List Slot) → length links ≡ most_places * 2 → length slots ≡ most_places * 2
    → ((v : ℕ) → head_at links v ≡ 0) → ((p : ℕ) → p ≤ 1 → (count_at slots p 0 ≡ 1) × (zero_at slots p 0 ≡ 0) × (one_at slots p 0 ≡ 0)) → WiresJoined τ n links slots (places n)
joined_none τ {n} sound links slots ll ls z e = record {
  links_long = ll;
  slots_long = ls;
  linked = links_start n (next_at links) (head_at links) sound.some z;
  end = e;
  slot = λ j p l o h lp. absurd (omega arith);
  kept = λ j p l o h lp. absurd (omega arith);
}

pub closed_none : (τ : Cell) {n : Net} (near : List Closed) → length near ≡ most_places * 2 → NodesClosed τ n near (places n)
closed_none τ near l = record { near_long = l; is = λ j p g h lp. absurd (omega arith) }
