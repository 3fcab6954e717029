-- On sound nets the judgement of 13 passes exactly where the second net eases the first. One way: the places of node 0 are 0 in both, the nodes were looked at,
-- and past the columns' end there is 0. The other way: equal columns are as long, and equal at each node.
use Rattle.std.specs.Prelude.{Ok}
use Prim.Native.Nat.{ℕ, zero, suc, ◌-◌, ◌≤◌, ◌<◌}
use mathlib.Core.Path.{◌≡◌, refl, sym, ap, ◌∙◌}
use mathlib.Core.Bool.{Bool, true}
use mathlib.Core.Logic.{◌↔◌}
use mathlib.Core.List.{List}
use native.Mathlib.Omega.{arith}
use native.Mathlib.Decide.{dec_lt}
use lib.Dec.{eqb, leb}
use lib.ListN.{length, get_or, get_or-eq_default}
use lib.Seq.{ext_get_or}
use borrow.Author.Tests.{eqb-true, leb-true, eq-eqb, le-leb}
use Rattle.rules.specs.declared.Node.{Node}
use Rattle.rules.specs.declared.Refusal.TheVariants.{OutOfRange, WrongColumns, NotEased}
use Rattle.rules.specs.Choose.{both}
use Rattle.rules.specs.Net.{Net, places, parent, wire, kind, pin, polarity, node}
use Rattle.rules.specs.Judge.{unless, columns_fit, limits_in_range, source_clear, judged}
use Rattle.rules.specs.Sound.{SoundNet}
use Rattle.rules.specs.Ease.{Eases, limits_ease, node_eases, nodes_ease, ease_judged}
use Rattle.rules.proofs.Tests.{both_met, both_true, unless_met, then_met}
use Rattle.rules.proofs.Each.{each_met, each_sound}
use Rattle.rules.proofs.Judging.{unless_true, then_both, Only, unless_only, then_only, each_only, Tests}
use Rattle.rules.proofs.SoundSays.{sound_says}

-- node 0 holds 0 in all five columns
record Clear (n : Net) : Type 0 where
  parent₀ : parent n 0 ≡ 0
  wire₀ : wire n 0 ≡ 0
  kind₀ : kind n 0 ≡ 0
  pin₀ : pin n 0 ≡ 0
  polarity₀ : polarity n 0 ≡ 0

clear_says : (n : Net) → judged n ≡ (Ok tt) → Clear n
unfolding judged
clear_says n e =
    let (a, e₁) = then_met (unless (columns_fit n) WrongColumns) _ e in
    let (b, e₂) = then_met (unless (limits_in_range n.limits) (OutOfRange 0)) _ e₁ in
    let (c, e₃) = then_met (unless (source_clear n) (OutOfRange 0)) _ e₂ in
    let (p, s₁) = both_met (eqb (parent n 0) 0) _ (unless_met (source_clear n) (OutOfRange 0) c) in
    let (w, s₂) = both_met (eqb (wire n 0) 0) _ s₁ in
    let (k, s₃) = both_met (eqb (kind n 0) 0) _ s₂ in
    let (x, q) = both_met (eqb (pin n 0) 0) (eqb (polarity n 0) 0) s₃ in
    record {
      parent₀ = eqb-true (parent n 0) 0 p;
      wire₀ = eqb-true (wire n 0) 0 w;
      kind₀ = eqb-true (kind n 0) 0 k;
      pin₀ = eqb-true (pin n 0) 0 x;
      polarity₀ = eqb-true (polarity n 0) 0 q;
    }

-- what is said of one node
record NodeEased (a b : Node) : Type 0 where
  parent : b.parent ≡ a.parent
  wire : b.wire ≤ a.wire
  kind : b.kind ≡ a.kind
  pin : b.pin ≤ a.pin
  polarity : b.polarity ≡ a.polarity

node_says : (a b : Node) → node_eases a b ≡ true → NodeEased a b
node_says a b e =
    let (p, x) = both_met (eqb b.parent a.parent) _ e in
    let (w, y) = both_met (leb b.wire a.wire) _ x in
    let (k, z) = both_met (eqb b.kind a.kind) _ y in
    let (c, q) = both_met (leb b.pin a.pin) _ z in
    record {
      parent = eqb-true b.parent a.parent p;
      wire = leb-true b.wire a.wire w;
      kind = eqb-true b.kind a.kind k;
      pin = leb-true b.pin a.pin c;
      polarity = eqb-true b.polarity a.polarity q;
    }

-- ---- two columns of m places
module _ (xs ys : List ℕ) (m : ℕ) (xs-long : length xs ≡ m) (ys-long : length ys ≡ m) (xs₀ : get_or xs 0 0 ≡ 0) (ys₀ : get_or ys 0 0 ≡ 0) where
  column_same : ((i : ℕ) → 1 ≤ i → i < m → get_or ys i 0 ≡ get_or xs i 0) → ys ≡ xs
  column_same h = ext_get_or 0 ys xs (ys-long ∙ sym xs-long) (λ i l. at i (omega arith))
    where
      at : (i : ℕ) → i < m → get_or ys i 0 ≡ get_or xs i 0
      at zero l = ys₀ ∙ sym xs₀
      at (suc i) l = h (suc i) (omega arith) l

  column_less : ((i : ℕ) → 1 ≤ i → i < m → get_or ys i 0 ≤ get_or xs i 0) → (i : ℕ) → get_or ys i 0 ≤ get_or xs i 0
  column_less h zero = omega arith
  column_less h (suc i) = elim (dec_lt (suc i) m) [
    | yes l ↦ h (suc i) (omega arith) l
    | no l ↦ (let z : get_or ys (suc i) 0 ≡ 0 = get_or-eq_default ys 0 (omega arith) in omega arith)
  ]

-- ---- the whole
pub eased_says : (n m : Net) → judged n ≡ (Ok tt) → judged m ≡ (Ok tt) → ease_judged n m ≡ (Ok tt) → Eases n m
unfolding ease_judged
eased_says n m jn jm e =
    let (a, nodes) = then_met (unless (both (limits_ease n.limits m.limits) (eqb (places m) (places n))) (NotEased 0)) (nodes_ease n m) e in
    let (l, size) = both_met (limits_ease n.limits m.limits) (eqb (places m) (places n)) (unless_met _ (NotEased 0) a) in
    let (limit, l₁) = both_met (leb n.limits.limit m.limits.limit) _ l in
    let (cb, repeater) = both_met (leb m.limits.pin n.limits.pin) (eqb m.limits.repeater n.limits.repeater) l₁ in
    let long : places m ≡ places n = eqb-true (places m) (places n) size in
    let s : SoundNet n = sound_says n jn in
    let t : SoundNet m = sound_says m jm in
    let c : Clear n = clear_says n jn in
    let d : Clear m = clear_says m jm in
    let at : (i : ℕ) → 1 ≤ i → i < places n → NodeEased (node n i) (node m i) =
    λ i lo hi. node_says (node n i) (node m i) (unless_met (node_eases (node n i) (node m i)) (NotEased i)
    (each_met (λ j. unless (node_eases (node n j) (node m j)) (NotEased j)) (places n - 1) 1 nodes i lo (omega arith))) in
    record {
      limit = leb-true n.limits.limit m.limits.limit limit;
      pin = leb-true m.limits.pin n.limits.pin cb;
      repeater = eqb-true m.limits.repeater n.limits.repeater repeater;
      parents = column_same n.parents m.parents (places n) refl long c.parent₀ d.parent₀ (λ i lo hi. (at i lo hi).parent);
      kinds = column_same n.kinds m.kinds (places n) s.kinds_long (t.kinds_long ∙ long) c.kind₀ d.kind₀ (λ i lo hi. (at i lo hi).kind);
      polarities = column_same n.polarities m.polarities (places n) s.polarities_long (t.polarities_long ∙ long) c.polarity₀ d.polarity₀ (λ i lo hi. (at i lo hi).polarity);
      wires = column_less n.wires m.wires (places n) s.wires_long (t.wires_long ∙ long) c.wire₀ d.wire₀ (λ i lo hi. (at i lo hi).wire);
      pins = column_less n.pins m.pins (places n) s.pins_long (t.pins_long ∙ long) c.pin₀ d.pin₀ (λ i lo hi. (at i lo hi).pin);
    }

-- ---- and back
eases_node : {n m : Net} → Eases n m → (i : ℕ) → node_eases (node n i) (node m i) ≡ true
eases_node {n} {m} e i =
    both_true (eq-eqb (parent m i) (parent n i) (ap (λ (l : List ℕ). get_or l i 0) e.parents))
    (both_true (le-leb (wire m i) (wire n i) (e.wires i))
    (both_true (eq-eqb (kind m i) (kind n i) (ap (λ (l : List ℕ). get_or l i 0) e.kinds))
    (both_true (le-leb (pin m i) (pin n i) (e.pins i)) (eq-eqb (polarity m i) (polarity n i) (ap (λ (l : List ℕ). get_or l i 0) e.polarities)))))

says_eased : (n m : Net) → Eases n m → ease_judged n m ≡ (Ok tt)
unfolding ease_judged
says_eased n m e =
    then_both
    (unless_true
    (both_true
    (both_true (le-leb n.limits.limit m.limits.limit e.limit)
    (both_true (le-leb m.limits.pin n.limits.pin e.pin) (eq-eqb m.limits.repeater n.limits.repeater e.repeater)))
    (eq-eqb (places m) (places n) (ap length e.parents)))
    (NotEased 0))
    (each_sound (λ i. unless (node_eases (node n i) (node m i)) (NotEased i)) (places n - 1) 1 (λ i lo hi. unless_true (eases_node e i) (NotEased i)))

-- ---- both ways
pub eased_exactly : (n m : Net) → judged n ≡ (Ok tt) → judged m ≡ (Ok tt) → (ease_judged n m ≡ (Ok tt)) ↔ Eases n m
eased_exactly n m jn jm = (eased_says n m jn jm, says_eased n m)

eased_thirteen : (n m : Net) → Only (λ c. c ≡ 13) (ease_judged n m)
unfolding ease_judged
eased_thirteen n m =
    let front : Bool = both (limits_ease n.limits m.limits) (eqb (places m) (places n)) in
    then_only (unless front (NotEased 0)) (nodes_ease n m) (unless_only front (NotEased 0) refl)
    (each_only (λ i. unless (node_eases (node n i) (node m i)) (NotEased i)) (places n - 1) 1 (λ i. unless_only (node_eases (node n i) (node m i)) (NotEased i) refl))

pub ease_tested : (n m : Net) → judged n ≡ (Ok tt) → judged m ≡ (Ok tt) → Tests (ease_judged n m) (Eases n m) 13
ease_tested n m jn jm = record { exactly = eased_exactly n m jn jm; by = eased_thirteen n m }
