-- What the carry answers and leaves in the column of offsets (RULES 6.14 to 6.18), its refusals in the order of RULES 5.13.
use Rattle.std.specs.Prelude.{ℕ, ◌<◌, ◌≡◌, List, Result, Ok, Err, map, length, get_or}
use Rattle.rules.specs.declared.Entry.{Entry}
use Rattle.rules.specs.Judged.{Judged}
use Rattle.rules.specs.Net.{Net}
use Rattle.rules.specs.Refusal.{number_of, place_of}
use Rattle.rules.specs.Load.{entries}
use Rattle.rules.specs.Judge.{then_judge, judged}
use Rattle.rules.specs.Checked.{checked}
use Rattle.rules.specs.Ease.{carried, ease_judged}
use Rattle.carry.specs.declared.NotCarried.{NotCarried}
use Rattle.carry.specs.declared.NotCarried.TheVariants.{FirstNet, SecondNet, Carry}

abbrev pub Outcome : Type 0
Outcome = Result ℕ NotCarried

-- 0 for a placement that was carried, or the refusal's number
abbrev pub outcome_number : Outcome → ℕ
outcome_number (Ok count) = 0
outcome_number (Err (FirstNet r)) = number_of r
outcome_number (Err (SecondNet r)) = number_of r
outcome_number (Err (Carry r)) = number_of r

-- the number of entries, or a refusal's place
abbrev pub outcome_count : Outcome → ℕ
outcome_count (Ok count) = count
outcome_count (Err (FirstNet r)) = place_of r
outcome_count (Err (SecondNet r)) = place_of r
outcome_count (Err (Carry r)) = place_of r

-- which of the two nets a refusal means (RULES 6.15): 1, 2, or 0 for neither
abbrev pub which_net : Outcome → ℕ
which_net (Ok count) = 0
which_net (Err (FirstNet r)) = 1
which_net (Err (SecondNet r)) = 2
which_net (Err (Carry r)) = 0

-- each net's own refusals come before all that follows
abbrev pub first_net : Judged → Outcome → Outcome
first_net (Ok _) next = next
first_net (Err r) next = Err (FirstNet r)

abbrev pub second_net : Judged → Outcome → Outcome
second_net (Ok _) next = next
second_net (Err r) next = Err (SecondNet r)

-- success says how many entries there are
abbrev pub placement_of : Judged → ℕ → Outcome
placement_of (Ok _) count = Ok count
placement_of (Err r) count = Err (Carry r)

-- from net n to net m
abbrev pub outcome : Net → Net → List ℕ → List ℕ → Outcome
outcome n m vs os = first_net (judged n) (second_net (judged m) (placement_of (then_judge (ease_judged n m) (checked n vs os)) (length vs)))

-- the column of offsets of a list of entries
abbrev pub offsets_of : List Entry → List ℕ
offsets_of p = map (λ (e : Entry). e.offset) p

-- the offsets afterwards: cut to the second net's wires (RULES 6.18), and after a refusal as they came
abbrev pub column_after : Outcome → Net → List ℕ → List ℕ → List ℕ
column_after (Ok count) m vs os = offsets_of (carried m (entries vs os))
column_after (Err e) m vs os = os

-- the answer r and the offsets after, by the offsets before
pub record CarriedIs (n m : Net) (vs before : List ℕ) (r : Outcome) (after : List ℕ) : Type 0 where
  pub answer : r ≡ outcome n m vs before
  pub column : after ≡ column_after (outcome n m vs before) m vs before

-- what the cut asks: each entry is on a wire of the column
pub record OnWires (ws vs os : List ℕ) : Type 0 where
  pub even : length os ≡ length vs
  pub on : (k : ℕ) → k < length vs → get_or vs k 0 < length ws
