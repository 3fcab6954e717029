-- Which net eases another (RULES 6.16), how 13 is found (RULES 6.17), and a placement cut to the new wires (RULES 6.18).
use Rattle.std.specs.Prelude.{ℕ, ◌-◌, ◌≤◌, min, ◌≡◌, List, map, Bool, eqb, leb}
use Rattle.rules.specs.declared.Entry.{Entry}
use Rattle.rules.specs.declared.Limits.{Limits}
use Rattle.rules.specs.declared.Node.{Node}
use Rattle.rules.specs.declared.Refusal.TheVariants.{NotEased}
use Rattle.rules.specs.Judged.{Judged}
use Rattle.rules.specs.Choose.{both}
use Rattle.rules.specs.Net.{Net, places, wire, node}
use Rattle.rules.specs.Net as columns
use Rattle.rules.specs.Judge.{unless, then_judge, judge_each}

-- m eases n
pub record Eases (n m : Net) : Type 0 where
  pub limit : n.limits.limit ≤ m.limits.limit
  pub pin : m.limits.pin ≤ n.limits.pin
  pub repeater : m.limits.repeater ≡ n.limits.repeater
  pub parents : m.parents ≡ n.parents
  pub kinds : m.kinds ≡ n.kinds
  pub polarities : m.polarities ≡ n.polarities
  pub wires : (i : ℕ) → wire m i ≤ wire n i
  pub pins : (i : ℕ) → columns.pin m i ≤ columns.pin n i

-- RULES 6.18: an offset past the new wire becomes that wire's size
abbrev pub cut : Net → Entry → Entry
cut m e = record { wire = e.wire; offset = min e.offset (wire m e.wire) }

abbrev pub carried : Net → List Entry → List Entry
carried m p = map (cut m) p

-- RULES 6.17: 13 at the lowest node that is harder than before, at 0 for the limits and for the number of nodes
abbrev pub limits_ease : Limits → Limits → Bool
limits_ease a b = both (leb a.limit b.limit) (both (leb b.pin a.pin) (eqb b.repeater a.repeater))

abbrev pub node_eases : Node → Node → Bool
node_eases a b =
    both (eqb b.parent a.parent) (both (leb b.wire a.wire) (both (eqb b.kind a.kind) (both (leb b.pin a.pin) (eqb b.polarity a.polarity))))

abbrev pub nodes_ease : Net → Net → Judged
nodes_ease n m = judge_each (λ i. unless (node_eases (node n i) (node m i)) (NotEased i)) (places n - 1) 1

unfoldable pub ease_judged : Net → Net → Judged
ease_judged n m =
    then_judge (unless (both (limits_ease n.limits m.limits) (eqb (places m) (places n))) (NotEased 0))
    (nodes_ease n m)
