-- What `judged n ≡ Sound` says, fact by fact: each test of the judge was met, at every node.
use Rattle.std.specs.Prelude.{Ok}
use Prim.Native.Nat.{ℕ, zero, suc, ◌-◌, ◌*◌, ◌≤◌, ◌<◌}
use mathlib.Core.Path.{◌≡◌}
use mathlib.Core.Bool.{true}
use mathlib.Core.List.{List}
use native.Mathlib.Omega.{arith}
use native.Mathlib.Decide.{ℕ_discrete, dec_lt}
use lib.ListN.{length, get_or, get_or-eq_default}
use lib.Dec.{eqb, ltb, leb}
use borrow.Author.Tests.{eqb-true, ltb-true, leb-true, eq-eqb, ne_eqb}
use Rattle.rules.specs.declared.Limits.{Limits}
use Rattle.rules.specs.declared.Node.{Node}
use Rattle.rules.specs.declared.Refusal.TheVariants.{OutOfRange, WrongParent, Childless, WrongColumns}
use Rattle.rules.specs.Figures.{most_limit, most_wire, most_pin, most_nodes, most_places, most_children}
use Rattle.rules.specs.Choose.{pick, both}
use Rattle.rules.specs.Net.{Net, places, parent, wire, kind, pin, polarity, node}
use Rattle.rules.specs.Judge.{unless, columns_fit, limits_in_range, source_clear, end_in_range, node_in_range, children, parent_fits, node_judged, nodes_judged, has_child, childed, judged}
use Rattle.rules.specs.Sound.{SoundNet}
use Rattle.rules.proofs.Tests.{both_met, unless_met, then_met}
use Rattle.rules.proofs.Each.{each_met}

-- ---- one node

-- what the ranges say of a node
pub record InRange (l : Limits) (d : Node) : Type 0 where
  pub wire : d.wire ≤ most_wire
  pub kind : d.kind ≤ 1
  pub pin : d.pin ≤ most_pin
  pub polarity : d.polarity ≤ l.repeater

pub in_range : (l : Limits) (d : Node) → node_in_range l d ≡ true → InRange l d
in_range l d e = let (w, end) = both_met (leb d.wire most_wire) (end_in_range l d) e in by_kind (leb-true d.wire most_wire w) end
  where
    at_sink : d.kind ≡ 1 → d.wire ≤ most_wire → both (leb d.pin most_pin) (leb d.polarity l.repeater) ≡ true → InRange l d
    at_sink k w x =
        let (p, q) = both_met (leb d.pin most_pin) (leb d.polarity l.repeater) x in
        record { wire = w; kind = omega arith; pin = leb-true d.pin most_pin p; polarity = leb-true d.polarity l.repeater q }

    at_branch : d.wire ≤ most_wire → both (eqb d.kind 0) (both (eqb d.pin 0) (eqb d.polarity 0)) ≡ true → InRange l d
    at_branch w x =
        let (k, rest) = both_met (eqb d.kind 0) (both (eqb d.pin 0) (eqb d.polarity 0)) x in
        let (p, q) = both_met (eqb d.pin 0) (eqb d.polarity 0) rest in
        record {
          wire = w;
          kind = omega (arith, eqb-true d.kind 0 k);
          pin = omega (arith, eqb-true d.pin 0 p);
          polarity = omega (arith, eqb-true d.polarity 0 q);
        }

    by_kind : d.wire ≤ most_wire → end_in_range l d ≡ true → InRange l d
    by_kind w x = elim (ℕ_discrete d.kind 1) [
      | yes k ↦ at_sink k w (rw (eq-eqb d.kind 1 k) at x)
      | no k ↦ at_branch w (rw (ne_eqb d.kind 1 k) at x)
    ]

-- what is asked of a parent
pub record Fits (i p k c : ℕ) : Type 0 where
  pub few : i ≤ most_nodes
  pub lower : p < i
  pub no_sink : k ≡ 0
  pub narrow : c < most_children

pub parent_fits_lem : (i p k c : ℕ) → parent_fits i p k c ≡ true → Fits i p k c
parent_fits_lem i p k c e =
    let (a, x) = both_met (leb i most_nodes) (both (ltb p i) (both (eqb k 0) (ltb c most_children))) e in
    let (b, y) = both_met (ltb p i) (both (eqb k 0) (ltb c most_children)) x in
    let (f, g) = both_met (eqb k 0) (ltb c most_children) y in
    record { few = leb-true i most_nodes a; lower = ltb-true p i b; no_sink = eqb-true k 0 f; narrow = ltb-true c most_children g }

module _ (n : Net) where
  -- node i is in its ranges and its parent fits
  pub record NodeSound (i : ℕ) : Type 0 where
    pub range : InRange n.limits (node n i)
    pub fits : Fits i (parent n i) (kind n (parent n i)) (children n (i - 1) (parent n i))

  pub node_sound : (i place : ℕ) → node_judged n i place ≡ (Ok tt) → NodeSound i
  node_sound i place e =
      let (r, f) = then_met (unless (node_in_range n.limits (node n i)) (OutOfRange place)) _ e in
      record {
        range = in_range n.limits (node n i) (unless_met _ (OutOfRange place) r);
        fits = parent_fits_lem i (parent n i) (kind n (parent n i)) (children n (i - 1) (parent n i)) (unless_met _ (WrongParent place) f);
      }

  -- no ninth child so far, so at most eight
  few_children : (m : ℕ) → ((i : ℕ) → 1 ≤ i → i < m → NodeSound i) → (k v : ℕ) → k < m → children n k v ≤ most_children
  unfolding children
  few_children m h zero v lt = omega arith
  few_children m h (suc k) v lt = elim (ℕ_discrete (parent n (suc k)) v) [
    | yes q ↦ (
        let e : suc k - 1 ≡ k = omega arith in
        rw (eq-eqb (parent n (suc k)) v q) (omega (arith, rw (q, e) at (h (suc k) (omega arith) lt).fits.narrow))
        )
    | no q ↦ rw (ne_eqb (parent n (suc k)) v q) (omega (arith, few_children m h k v (omega arith)))
  ]

has_child_lem : (i k c : ℕ) → has_child i k c ≡ (Ok tt) → k ≡ 0 → 1 ≤ c
has_child_lem i k c e z =
    let met : pick (eqb k 0) (ltb 0 c) true ≡ true = unless_met _ (Childless i) e in
    ltb-true 0 c (rw (eq-eqb k 0 z) at met)

-- a column's value at every place: at node 0, at a later node, and past the end, where it is 0
everywhere : (col : List ℕ) (m most : ℕ) → length col ≡ m → get_or col 0 0 ≡ 0 → ((i : ℕ) → 1 ≤ i → i < m → get_or col i 0 ≤ most) → (i : ℕ) → get_or col i 0 ≤ most
everywhere col m most long zero_at_lem h zero = omega arith
everywhere col m most long zero_at_lem h (suc i) = elim (dec_lt (suc i) m) [
  | yes lt ↦ h (suc i) (omega arith) lt
  | no ge ↦ (let z : get_or col (suc i) 0 ≡ 0 = get_or-eq_default col 0 (omega arith) in omega arith)
]

-- ---- the whole net
module _ (n : Net) (fit : columns_fit n ≡ true) (limits : limits_in_range n.limits ≡ true) (clear : source_clear n ≡ true) (nodes : nodes_judged n ≡ (Ok tt)) (every : childed n ≡ (Ok tt)) where
  facts : SoundNet n
  facts =
      let (w, f₁) = both_met (eqb (length n.wires) (places n)) _ fit in
      let (k, f₂) = both_met (eqb (length n.kinds) (places n)) _ f₁ in
      let (p, f₃) = both_met (eqb (length n.pins) (places n)) _ f₂ in
      let (q, f₄) = both_met (eqb (length n.polarities) (places n)) _ f₃ in
      let (some, few) = both_met (ltb 0 (places n)) (leb (places n) most_places) f₄ in
      let (a, l₁) = both_met (ltb 0 n.limits.limit) _ limits in
      let (b, l₂) = both_met (leb n.limits.limit most_limit) _ l₁ in
      let (c, d) = both_met (ltb (2 * n.limits.pin) n.limits.limit) (leb n.limits.repeater 1) l₂ in
      let (p₀, s₁) = both_met (eqb (parent n 0) 0) _ clear in
      let (w₀, s₂) = both_met (eqb (wire n 0) 0) _ s₁ in
      let (k₀, s₃) = both_met (eqb (kind n 0) 0) _ s₂ in
      let (c₀, q₀) = both_met (eqb (pin n 0) 0) (eqb (polarity n 0) 0) s₃ in
      let one : 1 ≤ places n = ltb-true 0 (places n) some in
      let long_w : length n.wires ≡ places n = eqb-true _ _ w in
      let long_k : length n.kinds ≡ places n = eqb-true _ _ k in
      let long_p : length n.pins ≡ places n = eqb-true _ _ p in
      let long_q : length n.polarities ≡ places n = eqb-true _ _ q in
      let at : (i : ℕ) → 1 ≤ i → i < places n → NodeSound n i = λ i lo hi. node_sound n i i (each_met (λ j. node_judged n j j) (places n - 1) 1 nodes i lo (omega arith)) in
      record {
        some = one;
        few = leb-true (places n) most_places few;
        wires_long = long_w;
        kinds_long = long_k;
        pins_long = long_p;
        polarities_long = long_q;
        limit_some = ltb-true 0 n.limits.limit a;
        limit_most = leb-true n.limits.limit most_limit b;
        half = ltb-true (2 * n.limits.pin) n.limits.limit c;
        repeater_most = leb-true n.limits.repeater 1 d;
        wire_most = everywhere n.wires (places n) most_wire long_w (eqb-true (wire n 0) 0 w₀) (λ i lo hi. (at i lo hi).range.wire);
        kind_most = everywhere n.kinds (places n) 1 long_k (eqb-true (kind n 0) 0 k₀) (λ i lo hi. (at i lo hi).range.kind);
        pin_most = everywhere n.pins (places n) most_pin long_p (eqb-true (pin n 0) 0 c₀) (λ i lo hi. (at i lo hi).range.pin);
        polarity_most = everywhere n.polarities (places n) n.limits.repeater long_q (eqb-true (polarity n 0) 0 q₀) (λ i lo hi. (at i lo hi).range.polarity);
        source = eqb-true (kind n 0) 0 k₀;
        lower = λ i lo hi. (at i lo hi).fits.lower;
        no_sink = λ i lo hi. (at i lo hi).fits.no_sink;
        narrow = λ v. few_children n (places n) at (places n - 1) v (omega arith);
        childed = λ v hi z. has_child_lem v (kind n v) (children n (places n - 1) v) (each_met (λ i. has_child i (kind n i) (children n (places n - 1) i)) (places n) 0 every v (omega arith) (omega arith)) z;
      }

pub sound_says : (n : Net) → judged n ≡ (Ok tt) → SoundNet n
unfolding judged
sound_says n e =
    let (a, e₁) = then_met (unless (columns_fit n) WrongColumns) _ e in
    let (b, e₂) = then_met (unless (limits_in_range n.limits) (OutOfRange 0)) _ e₁ in
    let (c, e₃) = then_met (unless (source_clear n) (OutOfRange 0)) _ e₂ in
    let (d, f) = then_met (nodes_judged n) (childed n) e₃ in
    facts n (unless_met _ WrongColumns a) (unless_met _ (OutOfRange 0) b) (unless_met _ (OutOfRange 0) c) d f
