-- What the judge's own functions ask and say of the lists behind their arguments.
use Rattle.std.specs.Prelude.{Ok, ℕ, ◌≡◌, Bool, List, eqb}
use Rattle.rules.specs.declared.Node.{Node}
use Rattle.rules.specs.Judged.{Judged}
use Rattle.rules.specs.Choose.{both}
use Rattle.rules.specs.Net.{Net, places}
use Rattle.rules.specs.Judge.{then_judge, nodes_judged, childed}
pub use Rattle.screen.specs.Screened.{Level, Tallied}

-- `source_clear` of a net is this of its node 0
abbrev pub node_clear : Node → Bool
node_clear d = both (eqb d.parent 0) (both (eqb d.wire 0) (both (eqb d.kind 0) (both (eqb d.pin 0) (eqb d.polarity 0))))

-- what the pass over the nodes answers, and what it has counted where all are sound
pub record NodesJudged (n : Net) (counts : List ℕ) (r : Judged) : Type 0 where
  pub is : r ≡ nodes_judged n
  pub counted : r ≡ (Ok tt) → Tallied n counts (places n)

-- the nodes, and then the childless: what is left to judge once the source is
unfoldable pub tree_judged : Net → Judged
tree_judged n = then_judge (nodes_judged n) (childed n)
