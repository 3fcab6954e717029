-- The first part of what is judged of a placement on a net: 7 for its columns, then 10 (RULES 5.6).
use Rattle.std.specs.Prelude.{ℕ, ◌≡◌, List, Result, Ok, Err, length}
use Rattle.rules.specs.declared.LentNet.{LentNet}
use Rattle.rules.specs.declared.LentPlacement.{LentPlacement}
use Rattle.rules.specs.declared.Refusal.{Refusal}
use Rattle.rules.specs.Judged.{Judged}
use Rattle.rules.specs.declared.Refusal.TheVariants.{WrongColumns}
use Rattle.rules.specs.Net.{Net, net_of, places}
use Rattle.rules.specs.Load.{entries}
use Rattle.rules.specs.Legal.{start}
use Rattle.rules.specs.Judge.{unless, then_judge, judged}
use Rattle.rules.specs.Checked.{placement_fits, placed_from}
use Rattle.load.specs.declared.Standing.{Standing}

abbrev pub stood : Net → List ℕ → List ℕ → Judged
stood n vs os = then_judge (unless (placement_fits vs os) WrongColumns) (placed_from n start 0 (entries vs os))

-- after the net's own refusals
abbrev pub begun : Net → List ℕ → List ℕ → Judged
begun n vs os = then_judge (judged n) (stood n vs os)

-- the answer: the net and the placement that came, which stand, or the first refusal
abbrev pub StandsIs : LentNet → LentPlacement → Result Standing Refusal → Type 0
StandsIs net given (Ok s) = (s.net ≡ net) × (s.placement ≡ given) × (begun (net_of net) given.wires.now given.offsets.now ≡ Ok tt)
StandsIs net given (Err r) = begun (net_of net) given.wires.now given.offsets.now ≡ Err r

-- a net whose wires are in this column
pub record HasWires (n : Net) (ws : List ℕ) : Type 0 where
  pub column : n.wires ≡ ws
  pub long : length n.wires ≡ places n
