-- The example of RULES 9.14, and what each refusal names.
use Prim.Native.Nat.{ℕ}
use mathlib.Core.Path.{◌≡◌, refl}
use mathlib.Core.List.{List, [], ◌∷◌}
use Rattle.rules.specs.declared.Refusal.TheVariants.{OutOfRange, NotEased, Overloaded}
use Rattle.rules.specs.Net.{Net, net}
use Rattle.rules.specs.Tree.{hanging}
use Rattle.rules.specs.Load.{entries, offsets_on, drives, hands_up, handed_by, load_below, driven_on, joined, driven}
use Rattle.rules.specs.Legal.{on_the_way, inverters}
use Rattle.rules.specs.Judge.{children, judge_each, judged}
use Rattle.rules.specs.Checked.{placed_from, within_limit, first_sink, placement_judged, checked}
use Rattle.rules.specs.Ease.{ease_judged}
use Rattle.std.specs.Prelude.{Ok, Err}
use Rattle.carry.specs.declared.NotCarried.TheVariants.{FirstNet, SecondNet, Carry}
use Rattle.carry.specs.Carry.{Outcome, outcome, column_after}

-- one sink at the end of one wire, C_U 10, C_b 2
abbrev alone : ℕ → ℕ → Net
alone wire pin = net (record { limit = 10; pin = 2; repeater = 0 }) (0 ∷ 0 ∷ []) (0 ∷ wire ∷ []) (0 ∷ 1 ∷ []) (0 ∷ pin ∷ []) (0 ∷ 0 ∷ [])

abbrev from : Net → Net → List ℕ → Outcome
from n m os = outcome n m (1 ∷ 1 ∷ []) os

pub carried_so : (from (alone 15 4) (alone 10 4) (6 ∷ 14 ∷ []) ∷ from (alone 15 4) (alone 16 4) (6 ∷ 14 ∷ []) ∷ from (alone 15 4) (alone 10 5) (6 ∷ 14 ∷ [])
    ∷ from (alone 15 4) (alone 10 4) (7 ∷ 14 ∷ []) ∷ from (alone 10000001 4) (alone 10 4) (6 ∷ 14 ∷ []) ∷ from (alone 15 4) (alone 10 1000001) (6 ∷ 14 ∷ []) ∷ [])
    ≡ (Ok 2 ∷ Err (Carry (NotEased 1)) ∷ Err (Carry (NotEased 1)) ∷ Err (Carry (Overloaded 0)) ∷ Err (FirstNet (OutOfRange 1)) ∷ Err (SecondNet (OutOfRange 1)) ∷ [])
unfolding children judge_each judged ease_judged checked placement_judged placed_from within_limit first_sink hanging entries offsets_on drives hands_up handed_by load_below driven_on joined driven on_the_way inverters
carried_so = refl

pub cut_so : column_after (from (alone 15 4) (alone 10 4) (6 ∷ 14 ∷ [])) (alone 10 4) (1 ∷ 1 ∷ []) (6 ∷ 14 ∷ []) ≡ 6 ∷ 10 ∷ []
unfolding children judge_each judged ease_judged checked placement_judged placed_from within_limit first_sink hanging entries offsets_on drives hands_up handed_by load_below driven_on joined driven on_the_way inverters
cut_so = refl
